-- 01, "Bench cases", its last part: what `eqsplit` prints of an answer, as the list of the text's bytes. Every line ends in a newline; numbers are decimal.
use Rattle.std.specs.Prelude.{cond, ℕ, zero, suc, ◌+◌, ◌*◌, ◌/◌, ◌%◌, min, eqb, ltb}
use mathlib.Core.List.{List, [], ◌∷◌, ◌++◌, flat_map}
use Prim.Native.Char.{code}
use Prim.Native.String.{String, [] as noText, ◌∷◌ as ◌then◌}
use Rattle.tables.specs.Words.{below, Pair}
use Rattle.tables.specs.Bytes.{byte_at, word_at, count_of}
use Rattle.clauses.specs.Clauses.{Clause, Conclusion, equals, differs, falsum}
use Rattle.clauses.specs.ReadBack.{clauses_read}
use Rattle.demands.specs.declared.Answer.{Answer}
use Rattle.demands.specs.declared.Answer.TheVariants.{Consistent, Inconsistent, Refused}

-- the bytes of a quoted text
abbrev pub ascii : String → List ℕ
ascii noText = []
ascii (c then cs) = code c ∷ ascii cs

-- the digits of a number, the most significant first, at most so many and one more
unfoldable pub digits : ℕ → ℕ → List ℕ
digits zero n = (48 + n % 10) ∷ []
digits (suc more) n =
    let higher = digits more (n / 10) in
    cond (ltb n 10) ((48 + n % 10) ∷ []) (higher ++ ((48 + n % 10) ∷ []))

-- a number in decimal: twenty digits are enough for every number below 2^64
abbrev pub decimal : ℕ → List ℕ
decimal = digits 19

-- a class by its number; a term not in use has 65535 there
unfoldable pub class_of : ℕ → List ℕ
class_of class = cond (eqb class 65535) (ascii " idle\n") (ascii " class " ++ decimal class ++ ascii "\n")

-- "`term I class C` or `term I idle` for each"
unfoldable pub term_line : List ℕ → ℕ → List ℕ
unfolding class_of
term_line partition i = ascii "term " ++ decimal i ++ class_of (word_at partition (2 * i))

-- an added term's argument j, behind a single blank
unfoldable pub argument_text : List ℕ → ℕ → ℕ → List ℕ
argument_text added i j = ascii " " ++ decimal (word_at added (16 * i + 4 + 2 * j))

-- "`add NUMBER SYMBOL ARGS`, spaced by single blanks": added term i stands behind the n given terms; a record has four arguments at most
unfoldable pub added_line : ℕ → List ℕ → ℕ → List ℕ
unfolding argument_text flat_map
added_line n added i =
    ascii "add " ++ decimal (n + i) ++ ascii " " ++ decimal (word_at added (16 * i)) ++
    flat_map (argument_text added i) (below (min (byte_at added (16 * i + 2)) 4)) ++
    ascii "\n"

-- two term numbers with a sign between them
unfoldable pub pair_text : List ℕ → Pair → List ℕ
pair_text sign p = decimal p.left ++ sign ++ decimal p.right

-- "conclusion `x=y`, `x!=y` or `false`"
unfoldable pub conclusion_text : Conclusion → List ℕ
unfolding pair_text
conclusion_text (equals p) = pair_text (ascii "=") p
conclusion_text (differs p) = pair_text (ascii "!=") p
conclusion_text falsum = ascii "false"

-- a premise that is not the first
unfoldable pub and_pair : Pair → List ℕ
unfolding pair_text
and_pair p = ascii " & " ++ pair_text (ascii "=") p

-- "premises joined by ` & `"; "without premises the line starts `-> `"
unfoldable pub premises_text : List Pair → List ℕ
unfolding pair_text and_pair flat_map
premises_text [] = ascii "-> "
premises_text (p ∷ ps) = pair_text (ascii "=") p ++ flat_map and_pair ps ++ ascii " -> "

-- "one line a clause"
unfoldable pub clause_line : Clause → List ℕ
unfolding premises_text conclusion_text
clause_line c = premises_text c.premises ++ conclusion_text c.conclusion ++ ascii "\n"

-- "`consistent`, then .. for each". No table has over 256 terms.
unfoldable pub consistent_text : ℕ → List ℕ → List ℕ
unfolding term_line flat_map
consistent_text given partition = ascii "consistent\n" ++ flat_map (term_line partition) (below (min given 256))

-- "Line 1: verdict and disequality."
unfoldable pub head_text : ℕ → List ℕ
head_text disequality = ascii "inconsistent by " ++ decimal disequality ++ ascii "\n"

-- "Last: counts of added terms and clause records."
unfoldable pub end_text : ℕ → ℕ → List ℕ
end_text terms records = ascii "end " ++ decimal terms ++ ascii " " ++ decimal records ++ ascii "\n"

-- "Added terms follow ..; then one line a clause". No run adds over 255 terms, and the clause records are those that the buffer holds whole.
unfoldable pub inconsistent_text : ℕ → ℕ → ℕ → ℕ → List ℕ → List ℕ → List ℕ
unfolding head_text added_line clause_line end_text flat_map
inconsistent_text disequality terms records given added clauses =
    head_text disequality ++
    flat_map (added_line (min given 256) added) (below (min terms 255)) ++
    flat_map clause_line (clauses_read (min records (count_of 8 clauses)) clauses) ++
    end_text terms records

-- "`refused NUMBER at PLACE`"
unfoldable pub refused_text : ℕ → ℕ → List ℕ
refused_text number place = ascii "refused " ++ decimal number ++ ascii " at " ++ decimal place ++ ascii "\n"

-- the text of an answer, with the number of given terms and the bytes of the three lent buffers
unfoldable pub report_of : Answer → ℕ → List ℕ → List ℕ → List ℕ → List ℕ
unfolding consistent_text inconsistent_text refused_text
report_of Consistent given partition added clauses = consistent_text given partition
report_of (Inconsistent disequality terms records) given partition added clauses = inconsistent_text disequality terms records given added clauses
report_of (Refused number place) given partition added clauses = refused_text number place
