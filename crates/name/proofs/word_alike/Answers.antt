-- Equal words have equal bytes, and equal bytes equal words.
use Rattle.std.proofs.Common.{arith}
use Rattle.name.proofs.Order.{words_alike}
use Rattle.name.proofs.word_alike.Goals as goal

pub returns : goal.returns
returns c = words_alike c.args.name.now c.args.at c.args.start c.args.size c.args.k c.eight_at.result c.eight_at-2.result (λ i. omega (arith, c.type_inv.name i)) c.requires.2 c.eight_at.ensures c.eight_at-2.ensures
