-- Each table's own file has the argument; here are the statements' words.
use mathlib.Core.Path.{refl, sym, ◌∙◌}
use Rattle.theorems.specs.TablesTwice.{WidthBack, HeadTwice, HheaTwice, MaxpTwice, MetricsTwice, NameTwice, PostTwice}
use Rattle.model.proofs.Chosen.{all_under}
use Rattle.theorems.proofs.Head.{width-back, head-twice}
use Rattle.theorems.proofs.Metrics.{metrics-again, metrics-direct, hhea-twice}
use Rattle.theorems.proofs.Name.{name-twice}
use Rattle.theorems.proofs.Post.{post-twice}
use lib.ListN.{length}

pub width_back : WidthBack
width_back w head x h = width-back head h w x

pub head_twice : HeadTwice
head_twice w v head x h = head-twice head h w v x

pub hhea_twice : HheaTwice
hhea_twice hhea k j h = hhea-twice hhea k j h

pub maxp_twice : MaxpTwice
maxp_twice maxp n k = refl

pub metrics_twice : MetricsTwice
metrics_twice hhea hmtx r rs ms bytes h p q is u =
    let v = all_under (length r) rs u in
    metrics-again hhea hmtx r ms is bytes h p q rs v ∙ sym (metrics-direct hhea hmtx r ms is rs v)

pub name_twice : NameTwice
name_twice = name-twice

pub post_twice : PostTwice
post_twice b c r rs few e full u = post-twice b c r rs few e full (all_under (length r) rs u)
