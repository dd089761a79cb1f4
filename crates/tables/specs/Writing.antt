-- What is known once everything is measured and the layout made; and the tables, written one after the other.
use Rattle.std.specs.Prelude.{◌≡◌, true, List, ℕ, zero, suc, ◌+◌, ◌≤◌, ◌<◌, eqb, length, get_or, take}
use Rattle.std.proofs.Math.Option.{none, some}
use Rattle.model.specs.Res.{pick, either, is_ok}
use Rattle.model.specs.Bytes.{Bytes}
use Rattle.model.specs.Cut.{rewrite}
use Rattle.post.specs.Post.{Indexed}
use Rattle.construct.specs.declared.Layout.{Layout}
use Rattle.construct.specs.Construct.{laid_out, body_of, write_at}
use Rattle.plan.specs.declared.Source.{Source}
use Rattle.plan.specs.declared.Plan.{Plan}
use Rattle.plan.specs.Steps.{renewed, tables_of, there?}
use Rattle.plan.specs.Sources.{font_of, Opens, Walked, Found}
use Rattle.tables.specs.declared.Cut.{Cut}

-- the new table number k
unfoldable pub body_from : Bytes → Source → List ℕ → ℕ → ℕ → Bytes
body_from font s scratch kept k = body_of (renewed (font_of font s) (take kept scratch)) k

-- steps 1 to 8 have passed: the font is opened, walked and measured, and no step refuses
pub record Ran (font : Bytes) (s : Source) (scratch : List ℕ) (kept : ℕ) (p : Plan) : Type 0 where
  pub opens : Opens font s
  pub walked : Walked font s scratch kept
  pub found : Found (font_of font s) (take kept scratch) p
  pub index : (b : Bytes) → (font_of font s).post ≡ some b → Indexed b scratch s.n kept
  pub passed : is_ok (rewrite (font_of font s) (take kept scratch)) ≡ true

-- and the new tables have their places, in a file that is not too long
pub record WritesFrom (font : Bytes) (s : Source) (scratch : List ℕ) (kept : ℕ) (p : Plan) (new : Layout) : Type 0 where
  pub ran : Ran font s scratch kept p
  pub layout : new ≡ laid_out p.sized
  pub small : new.end ≤ 4294967295

-- table number k is written by itself: all but glyf and loca (numbers 2 and 6)
pub record Single (k : ℕ) : Type 0 where
  pub known : k < 11
  pub no_glyf : k ≡ 2 → ⊥
  pub no_loca : k ≡ 6 → ⊥

-- such ones among the first k, written one after the other
unfoldable pub others_to : Layout → (ℕ → Bytes) → Bytes → ℕ → Bytes
others_to new body out zero = out
others_to new body out (suc k) =
    pick (either (eqb k 2) (eqb k 6)) (others_to new body out k) (write_at new k (body k) (others_to new body out k))

-- such a one can be written to this part of the output
pub record FitsFrom (font : Bytes) (s : Source) (scratch : List ℕ) (kept : ℕ) (p : Plan) (k : ℕ) (out : Bytes) : Type 0 where
  pub ran : Ran font s scratch kept p
  pub there : there? (get_or (tables_of (renewed (font_of font s) (take kept scratch))) k none) ≡ true
  pub room : length (body_from font s scratch kept k) ≤ length out

-- glyf and loca can be, loca at a distance behind glyf
pub record OutlinesFitFrom (font : Bytes) (s : Source) (scratch : List ℕ) (kept : ℕ) (p : Plan) (out : Bytes) (distance : ℕ) : Type 0 where
  pub ran : Ran font s scratch kept p
  pub offsets : length (body_from font s scratch kept 2) ≤ 4294967295
  pub behind : length (body_from font s scratch kept 2) ≤ distance
  pub room : distance + length (body_from font s scratch kept 6) ≤ length out

-- the same of what the writers are lent
abbrev pub new_body : Cut → ℕ → Bytes
new_body c k = body_from c.font.now c.source c.scratch.now c.kept k

abbrev pub Writes : Cut → Layout → Type 0
Writes c new = WritesFrom c.font.now c.source c.scratch.now c.kept c.plan new

abbrev pub Fits : Cut → ℕ → Bytes → Type 0
Fits c k out = FitsFrom c.font.now c.source c.scratch.now c.kept c.plan k out

abbrev pub OutlinesFit : Cut → Bytes → ℕ → Type 0
OutlinesFit c out distance = OutlinesFitFrom c.font.now c.source c.scratch.now c.kept c.plan out distance
