-- `engine::bytes::put` meets its contract: what `copy_from_slice` leaves behind the bytes is what stood there.
use Rattle.std.proofs.Common.{length, refl, ◌∙◌, arith}
use Rattle.std.proofs.lemmas.Slice.{put_mid-paste}
use Rattle.engine.proofs.Writing.{paste_all}
use Rattle.engine.proofs.bytes.put.Goals as goal

pub returns : goal.returns
returns c =
    let out = c.args.out.now in
    let bytes = c.args.bytes.now in
    put_mid-paste c.args.at _ out _ bytes (length bytes) c.copy_from_slice.ensures.after (omega arith) refl ∙
    paste_all out c.args.at bytes (omega arith)
