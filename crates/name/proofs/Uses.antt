-- The first uses as one value: how large it is.
use Rattle.std.proofs.Common.{ℕ, ◌+◌, ◌*◌, ◌<◌, ◌≤◌, arith}
use prog.Memory.{up}

pub size-small : (u b : ℕ) → u ≤ 5460 → b ≤ 4096 → up 8 (up 1 (up 8 (up 8 (up 2 (up 2 (up 2 (0 + u * 2) + u * 2) + u * 2) + b * 2) + 8) + 8) + 1) < 9223372036854775808
size-small u b hu hb = omega arith
