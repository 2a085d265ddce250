-- The refusal of a list of checks that are made in order (docs/SPECIFICATION.md, 6).
-- `refusal_unless`: one check, by a test that is true exactly where the condition holds.
-- `refusal_or_else`: the checks of one list, then those of another, which may rest on the first.
-- `refusal_none`: no check refuses with 0.
-- `not_both`: where all checks hold, none is the first that does not.
-- `one_number`: the first check that does not hold has one number.
-- `refusal_held`: the refusal is 0 where all checks hold.
-- `held_refusal`: all checks hold where the refusal is 0.
-- `refusal_number`: the refusal is the number of the first check that does not hold.
-- `fails_among`: where the numbers of all checks are in a list, so is that of the first check that does not hold.
-- `refusal_among`: the refusal is then 0 or in the list.
-- `refusal_listed`: a refusal other than 0 is then in the list.
-- `among_append`: the numbers of two lists of checks, one after the other.
use Prim.Native.Nat.{ℕ, zero, suc}
use mathlib.Core.{Path.◌≡◌, Path.refl, Path.sym, Path.◌∙◌, Path.subst, Bool.Bool, Bool.true, Bool.false, Bool.true≢false, Bool.◌&&◌, List.List, List.[], List.◌∷◌, List.◌++◌, Logic.◌↔◌, Logic.◌⊎◌, Logic.inl, Logic.inr}
use native.Mathlib.Omega.{arith}
use Rattle.binary_field.specs.Checks.{unless, ◌or_else◌, listed, Check, check, AllHold, FirstFails, RefusalOf, all_hold, first_fails}

pub refusal_none : RefusalOf [] 0
refusal_none = all_hold refl tt

pub refusal_unless : (b : Bool) (n : ℕ) {P : Type 0} → ¬ (n ≡ 0) → ((b ≡ true) ↔ P) → RefusalOf (check n P ∷ []) (unless b n)
unfolding unless
refusal_unless true n h i = all_hold refl (i.0 refl, tt)
refusal_unless false n h i = first_fails h (inl (λ p. true≢false (sym (i.1 p)), refl))

-- ---- two lists, one after the other

all_append : (cs ds : List Check) → AllHold cs → AllHold ds → AllHold (cs ++ ds)
all_append [] ds h k = k
all_append (c ∷ cs) ds h k = (h.0, all_append cs ds h.1 k)

fails_append : (cs ds : List Check) (n : ℕ) → FirstFails cs n → FirstFails (cs ++ ds) n
fails_append [] ds n h = absurd h
fails_append (c ∷ cs) ds n (inl h) = inl h
fails_append (c ∷ cs) ds n (inr h) = inr (h.0, fails_append cs ds n h.1)

fails_later : (cs ds : List Check) (n : ℕ) → AllHold cs → FirstFails ds n → FirstFails (cs ++ ds) n
fails_later [] ds n h k = k
fails_later (c ∷ cs) ds n h k = inr (h.0, fails_later cs ds n h.1 k)

pub refusal_or_else : (cs ds : List Check) (m n : ℕ) → RefusalOf cs m → (AllHold cs → RefusalOf ds n) → RefusalOf (cs ++ ds) (m or_else n)
unfolding ◌or_else◌
refusal_or_else cs ds zero n (all_hold e h) k = elim (k h) [
  | all_hold z held ↦ all_hold z (all_append cs ds h held)
  | first_fails z fails ↦ first_fails z (fails_later cs ds n h fails)
]
refusal_or_else cs ds (suc m) n (all_hold e h) k = absurd (omega arith)
refusal_or_else cs ds zero n (first_fails z h) k = absurd (z refl)
refusal_or_else cs ds (suc m) n (first_fails z h) k = first_fails z (fails_append cs ds (suc m) h)

-- ---- what the refusal says

pub not_both : (cs : List Check) (n : ℕ) → AllHold cs → FirstFails cs n → ⊥
not_both [] n h k = k
not_both (c ∷ cs) n h (inl k) = k.0 h.0
not_both (c ∷ cs) n h (inr k) = not_both cs n h.1 k.1

pub one_number : (cs : List Check) (m n : ℕ) → FirstFails cs m → FirstFails cs n → m ≡ n
one_number [] m n h k = absurd h
one_number (c ∷ cs) m n (inl h) (inl k) = h.1 ∙ sym k.1
one_number (c ∷ cs) m n (inl h) (inr k) = absurd (h.0 k.0)
one_number (c ∷ cs) m n (inr h) (inl k) = absurd (k.0 h.0)
one_number (c ∷ cs) m n (inr h) (inr k) = one_number cs m n h.1 k.1

pub refusal_held : {cs : List Check} {n : ℕ} → RefusalOf cs n → AllHold cs → n ≡ 0
refusal_held (all_hold e h) k = e
refusal_held {cs} {n} (first_fails z h) k = absurd (not_both cs n k h)

pub held_refusal : {cs : List Check} {n : ℕ} → RefusalOf cs n → n ≡ 0 → AllHold cs
held_refusal (all_hold e h) k = h
held_refusal (first_fails z h) k = absurd (z k)

pub refusal_number : {cs : List Check} {m : ℕ} (n : ℕ) → RefusalOf cs m → FirstFails cs n → m ≡ n
refusal_number {cs} n (all_hold e h) k = absurd (not_both cs n h k)
refusal_number {cs} {m} n (first_fails z h) k = one_number cs m n h k

-- ---- the numbers

-- whether the number of every check is one of these
abbrev pub among : List Check → List ℕ → Bool
among [] ns = true
among (c ∷ cs) ns = listed c.number ns && among cs ns

pub fails_among : (cs : List Check) (ns : List ℕ) (n : ℕ) → among cs ns ≡ true → FirstFails cs n → listed n ns ≡ true
fails_among [] ns n e h = absurd h
fails_among (c ∷ cs) ns n e h = by (listed c.number ns) refl e h (fails_among cs ns n)
  where
    by : (b : Bool) → listed c.number ns ≡ b → (b && among cs ns) ≡ true → FirstFails (c ∷ cs) n
        → (among cs ns ≡ true → FirstFails cs n → listed n ns ≡ true) → listed n ns ≡ true
    by true is e (inl h) rest = subst (λ m. listed m ns ≡ true) (sym h.1) is
    by true is e (inr h) rest = rest e h.1
    by false is e h rest = absurd (true≢false (sym e))

pub refusal_among : {cs : List Check} {n : ℕ} (ns : List ℕ) → among cs ns ≡ true → RefusalOf cs n → (n ≡ 0) ⊎ (listed n ns ≡ true)
refusal_among ns e (all_hold z h) = inl z
refusal_among {cs} {n} ns e (first_fails z h) = inr (fails_among cs ns n e h)

pub refusal_listed : {cs : List Check} {n : ℕ} (ns : List ℕ) → among cs ns ≡ true → RefusalOf cs n → ¬ (n ≡ 0) → listed n ns ≡ true
refusal_listed ns e (all_hold z h) k = absurd (k z)
refusal_listed {cs} {n} ns e (first_fails z h) k = fails_among cs ns n e h

pub among_append : (cs ds : List Check) (ns : List ℕ) → among cs ns ≡ true → among ds ns ≡ true → among (cs ++ ds) ns ≡ true
among_append [] ds ns e f = f
among_append (c ∷ cs) ds ns e f = by (listed c.number ns) e (among_append cs ds ns)
  where
    by : (b : Bool) → (b && among cs ns) ≡ true → (among cs ns ≡ true → among ds ns ≡ true → among (cs ++ ds) ns ≡ true) → (b && among (cs ++ ds) ns) ≡ true
    by true e rest = rest e f
    by false e rest = e
