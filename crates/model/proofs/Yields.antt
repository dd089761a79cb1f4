-- Where every refusal is 3: what holds of a step's value if it has one, test by test.
use mathlib.Core.Path.{◌≡◌, refl, sym, subst}
use mathlib.Core.Bool.{Bool, true, false}
use Prim.Native.Nat.{ℕ}
use Rattle.model.specs.Res.{Res, refuse, ok, pick, need, map_res, ◌>>=◌, ◌>>◌}
use Rattle.model.proofs.Res.{ok_inj, ok-refuse}

pub record Yields {A : Type 0} (P : A → Type 0) (m : Res A) : Type 0 where
  pub value : (a : A) → m ≡ ok a → P a
  pub refusal : (k : ℕ) → m ≡ refuse k → k ≡ 3

pub yields_ok : {A : Type 0} (P : A → Type 0) (a : A) → P a → Yields P (ok a)
yields_ok P a p = record { value = λ b e. subst P (ok_inj e) p; refusal = λ k e. ok-refuse e }

pub yields_refuse : {A : Type 0} (P : A → Type 0) → Yields P (refuse 3)
yields_refuse P = record { value = λ a e. ok-refuse (sym e); refusal = λ k e. cc }

pub yields_need : {A : Type 0} (P : A → Type 0) (t : Bool) (r : Res A) → (t ≡ true → Yields P r) → Yields P (need 3 t >> r)
yields_need P true r h = h refl
yields_need P false r h = yields_refuse P

pub yields_pick : {A : Type 0} (P : A → Type 0) (t : Bool) (a b : Res A) → Yields P a → Yields P b → Yields P (pick t a b)
yields_pick P true a b x y = x
yields_pick P false a b x y = y

pub yields_bind : {A B : Type 0} (Q : A → Type 0) (P : B → Type 0) (m : Res A) (f : A → Res B)
    → Yields Q m → ((a : A) → Q a → Yields P (f a)) → Yields P (m >>= f)
yields_bind Q P (refuse k) f y h = record { value = λ b e. ok-refuse (sym e); refusal = λ j e. y.refusal j (cc) }
yields_bind Q P (ok a) f y h = h a (y.value a refl)

pub yields_map : {A B : Type 0} (Q : A → Type 0) (P : B → Type 0) (f : A → B) (m : Res A)
    → Yields Q m → ((a : A) → Q a → P (f a)) → Yields P (map_res f m)
yields_map Q P f (refuse k) y h = record { value = λ b e. ok-refuse (sym e); refusal = λ j e. y.refusal j (cc) }
yields_map Q P f (ok a) y h = yields_ok P (f a) (h a (y.value a refl))

pub yields_weaken : {A : Type 0} {Q P : A → Type 0} {m : Res A} → Yields Q m → ((a : A) → Q a → P a) → Yields P m
yields_weaken y h = record { value = λ a e. h a (y.value a e); refusal = y.refusal }
