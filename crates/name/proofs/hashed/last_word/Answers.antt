-- Each length has its own reads, which are the definition's.
use Rattle.std.proofs.Common.{refl, eq-eqb, ne_eqb, le-leb}
use borrow.Author.Tests.{lt-leb}
use Rattle.name.specs.Hashed.{last_word}
use Rattle.name.proofs.hashed.last_word.Goals as goal

pub returns-then-n-ge8 : goal.returns-then-n-ge8
unfolding last_word
returns-then-n-ge8 c = rw (le-leb _ _ c.if-n-ge8.true) c.eight_at.ensures

pub returns-then-n-ge4 : goal.returns-then-n-ge4
unfolding last_word
returns-then-n-ge4 c = rw (lt-leb _ _ c.if-n-ge8.false, le-leb _ _ c.if-n-ge4.true) cc

pub returns-then-n-eq0 : goal.returns-then-n-eq0
unfolding last_word
returns-then-n-eq0 c = rw (lt-leb _ _ c.if-n-ge8.false, lt-leb _ _ c.if-n-ge4.false, eq-eqb _ _ c.if-n-eq0.true) refl

pub returns : goal.returns
unfolding last_word
returns c = rw (lt-leb _ _ c.if-n-ge8.false, lt-leb _ _ c.if-n-ge4.false, ne_eqb _ _ c.if-n-eq0.false) (cc)
