-- Answers of 01's bench cases, and what is printed of each. The buffers have a sentinel byte behind what the call wrote.
use mathlib.Core.List.{List, [], ◌∷◌, map}
use mathlib.Core.Path.{◌≡◌, refl}
use Prim.Native.Nat.{ℕ}
use Rattle.clauses.proofs.Computing.{computing}
use Rattle.demands.specs.declared.Answer.{Answer}
use Rattle.demands.specs.declared.Answer.TheVariants.{Consistent, Inconsistent, Refused}
use Rattle.report.specs.Page.{page, shown}
use Rattle.report.specs.Text.{ascii, digits, report_of}

-- a quoted text is its bytes
pub quoted : ascii "0=1 -> 2\n" ≡ 48 ∷ 61 ∷ 49 ∷ 32 ∷ 45 ∷ 62 ∷ 32 ∷ 50 ∷ 10 ∷ []
quoted = refl

-- what a call returned with how many given terms, and the text
pub record Example : Type 0 where
  pub answer : Answer
  pub given : ℕ
  pub partition : List ℕ
  pub added : List ℕ
  pub clauses : List ℕ
  pub text : List ℕ

-- P7, LATE: 01 prints the whole output
late : Example
late =
    record {
      answer = Inconsistent 3 0 2;
      given = 6;
      partition = 170 ∷ [];
      added = 187 ∷ [];
      clauses = 1 ∷ 0 ∷ 0 ∷ 0 ∷ 1 ∷ 0 ∷ 0 ∷ 0 ∷ 2 ∷ 0 ∷ 2 ∷ 0 ∷ 3 ∷ 0 ∷ 0 ∷ 0 ∷ 204 ∷ [];
      text = ascii "inconsistent by 3\n0=1 -> 2=3\nend 0 2\n";
    }

-- P8, LATE with its last literal in A
late_in_a : Example
late_in_a =
    record {
      answer = Inconsistent 3 0 2;
      given = 6;
      partition = 170 ∷ [];
      added = 187 ∷ [];
      clauses = 1 ∷ 0 ∷ 0 ∷ 0 ∷ 1 ∷ 0 ∷ 0 ∷ 0 ∷ 4 ∷ 0 ∷ 0 ∷ 0 ∷ 0 ∷ 0 ∷ 0 ∷ 0 ∷ 204 ∷ [];
      text = ascii "inconsistent by 3\n0=1 -> false\nend 0 2\n";
    }

-- P9, MIDDLE: a term is added, and the clause has no premise
middle : Example
middle =
    record {
      answer = Inconsistent 3 1 1;
      given = 7;
      partition = 170 ∷ [];
      added = 21 ∷ 0 ∷ 2 ∷ 0 ∷ 0 ∷ 0 ∷ 1 ∷ 0 ∷ 0 ∷ 0 ∷ 0 ∷ 0 ∷ 0 ∷ 0 ∷ 0 ∷ 0 ∷ 187 ∷ [];
      clauses = 2 ∷ 0 ∷ 2 ∷ 0 ∷ 7 ∷ 0 ∷ 0 ∷ 0 ∷ 204 ∷ [];
      text = ascii "inconsistent by 3\nadd 7 21 0 1\n-> 2=7\nend 1 1\n";
    }

-- two clauses, of three premises and of none, the last of kind 3
joined : Example
joined =
    record {
      answer = Inconsistent 10 0 5;
      given = 256;
      partition = [];
      added = [];
      clauses = 1 ∷ 0 ∷ 0 ∷ 0 ∷ 1 ∷ 0 ∷ 0 ∷ 0 ∷
          1 ∷ 0 ∷ 0 ∷ 0 ∷ 255 ∷ 0 ∷ 0 ∷ 0 ∷
          1 ∷ 0 ∷ 12 ∷ 0 ∷ 0 ∷ 1 ∷ 0 ∷ 0 ∷
          2 ∷ 0 ∷ 2 ∷ 0 ∷ 3 ∷ 0 ∷ 0 ∷ 0 ∷
          3 ∷ 0 ∷ 4 ∷ 0 ∷ 5 ∷ 0 ∷ 0 ∷ 0 ∷
          [];
      text = ascii "inconsistent by 10\n0=1 & 0=255 & 12=256 -> 2=3\n-> 4!=5\nend 0 5\n";
    }

-- P5: no record at all
no_record : Example
no_record = record { answer = Inconsistent 0 0 0; given = 1; partition = []; added = []; clauses = 204 ∷ []; text = ascii "inconsistent by 0\nend 0 0\n" }

-- P1: no terms, the one line
no_terms : Example
no_terms = record { answer = Consistent; given = 0; partition = 170 ∷ []; added = []; clauses = []; text = ascii "consistent\n" }

-- a class and an idle term
classes : Example
classes = record { answer = Consistent; given = 3; partition = 0 ∷ 0 ∷ 0 ∷ 0 ∷ 255 ∷ 255 ∷ 170 ∷ []; added = []; clauses = []; text = ascii "consistent\nterm 0 class 0\nterm 1 class 0\nterm 2 idle\n" }

-- a refusal
refusal : Example
refusal = record { answer = Refused 3 20; given = 21; partition = 170 ∷ []; added = 187 ∷ []; clauses = 204 ∷ []; text = ascii "refused 3 at 20\n" }

pub examples : List Example
unfolding late late_in_a middle joined no_record no_terms classes refusal
examples = late ∷ late_in_a ∷ middle ∷ joined ∷ no_record ∷ no_terms ∷ classes ∷ refusal ∷ []

-- each is printed as 01 says
pub printed : map (λ e. report_of e.answer e.given e.partition e.added e.clauses) examples ≡ map (λ e. e.text) examples
unfolding examples report_of digits computing
printed = refl

-- where there is room, what the buffer held stays behind the text
pub with_room : shown (ascii "end\n") (1 ∷ 2 ∷ 3 ∷ 4 ∷ 5 ∷ 6 ∷ []) ≡ page (101 ∷ 110 ∷ 100 ∷ 10 ∷ 5 ∷ 6 ∷ []) 4
with_room = refl

-- where there is not, as much of the text as fits is shown
pub without_room : shown (ascii "end\n") (1 ∷ 2 ∷ 3 ∷ []) ≡ page (101 ∷ 110 ∷ 100 ∷ []) 3
without_room = refl
