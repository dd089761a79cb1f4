-- An answer is a refusal, by document 01's number, or a value. `do` runs steps in order, and the first refusal decides.
use Rattle.std.specs.Prelude.{Bool, true, false, List, [], ◌∷◌, ℕ}

infixl 20 ◌>>=◌
infixl 20 ◌>>◌
pub data Res (A : Type 0) : Type 0 where
  refuse : ℕ → Res A
  ok : A → Res A

abbrev pub ◌>>=◌ : {A B : Type 0} → Res A → (A → Res B) → Res B
refuse k >>= f = refuse k
ok a >>= f = f a

abbrev pub ◌>>◌ : {A B : Type 0} → Res A → Res B → Res B
a >> b = a >>= λ x. b

-- a if the test holds, else b
abbrev pub pick : {A : Type 0} → Bool → A → A → A
pick true a b = a
pick false a b = b

-- refusal k unless the test holds
abbrev pub need : ℕ → Bool → Res (Unit {0})
need k true = ok tt
need k false = refuse k

abbrev pub map_res : {A B : Type 0} → (A → B) → Res A → Res B
map_res f (refuse k) = refuse k
map_res f (ok a) = ok (f a)

-- each element's answer, in order: the first refusal decides
abbrev pub each : {A B : Type 0} → (A → Res B) → List A → Res (List B)
each f [] = ok []
each f (x ∷ xs) = f x >>= λ y. each f xs >>= λ ys. ok (y ∷ ys)

-- is it no refusal; and its value (of a refusal, `other`): for contracts of what runs after the tests
abbrev pub is_ok : {A : Type 0} → Res A → Bool
is_ok (refuse k) = false
is_ok (ok a) = true

abbrev pub value_of : {A : Type 0} → A → Res A → A
value_of other (refuse k) = other
value_of other (ok a) = a

-- two tests
abbrev pub both : Bool → Bool → Bool
both true b = b
both false b = false

abbrev pub either : Bool → Bool → Bool
either true b = true
either false b = b
