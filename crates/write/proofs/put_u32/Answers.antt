use Rattle.std.proofs.Common.{refl, arith, ◌∙◌}
use Rattle.std.proofs.lemmas.Grind.{common_steps}
use Rattle.model.specs.Bytes.{be32}
use Rattle.model.proofs.Ranges.{placed}
use Rattle.write.proofs.put_u32.Goals as goal

pub returns : goal.returns
returns c = placed c.args.at 4 c.args.out.now _ (be32 c.args.word) (c.copy_from_slice.ensures.after ∙ grind (arith, common_steps)) refl
