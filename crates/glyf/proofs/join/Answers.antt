-- Bytes that stand behind the run make it longer; else it is copied, and they are the new one.
use Rattle.glyf.proofs.Runs.{moved_longer, moved_new}
use Rattle.glyf.proofs.join.Goals as goal

pub returns-then-span-run : goal.returns-then-span-run
returns-then-span-run c = moved_longer c.requires.copied c.args.span c.requires.there c.requires.room c.if-span-run.true

pub returns : goal.returns
returns c = moved_new c.requires.copied c.args.span c.requires.there c.requires.room _ c.copy_run.ensures
