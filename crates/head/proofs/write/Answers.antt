-- `head::write` meets its contract: the copy is a run over the start, and both fields are put within it.
use Rattle.std.proofs.Common.{◌≡◌, ◌+◌, ◌≤◌, Bool, true, false, length, refl, arith}
use mir.Val.{bool_byte}
use Rattle.model.specs.Bytes.{put, be16, be32}
use Rattle.model.specs.Glyf.{width, width_bytes}
use Rattle.model.proofs.Bytes.{put-zero, length-put, put-within}
use Rattle.head.proofs.write.Goals as goal

-- a `bool` as a number, and the width's bytes
flag_bytes : (long : Bool) → be16 (bool_byte long) ≡ width_bytes (width long)
flag_bytes true = refl
flag_bytes false = refl

pub returns : goal.returns
returns c =
    let a = c.args in
    let h = a.head.now in
    let d = a.out.now in
    let flag = width_bytes (width a.long) in
    -- the number written is the width's
    let e : be16 c.from.result ≡ flag = rw c.from.ensures (flag_bytes a.long) in
    let k : 50 + length flag ≤ length h = rw (← e) (omega arith) in
    cc (put-zero d h, put-within h d flag 50 k, put-within (put h 50 flag) d (be32 0) 8 (rw (length-put h 50 flag k) (omega arith)))
