use Rattle.std.proofs.Common.{refl, ◌∙◌}
use Rattle.model.specs.Bytes.{be16}
use Rattle.model.proofs.Ranges.{placed}
use Rattle.write.proofs.put_u16.Goals as goal

pub returns : goal.returns
returns c = placed c.args.at 2 c.args.out.now _ (be16 c.args.half) (c.copy_from_slice.ensures.after ∙ c.to_be_bytes.ensures) refl
