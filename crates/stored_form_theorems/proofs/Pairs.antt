-- The pairs of an archive and their bytes (docs/SPECIFICATION.md, 5, 6 and 9).
-- `before_decides`: the order of pairs is that of their numbers.
-- `pairs_decide`, `pairs_length_decides`: the tests of the definitions are what the rules require.
-- `later_ascends`: pairs in order have their later numbers in order.
-- `pairs_small`: pairs of fewer than 65,536 operations fit four bytes. `some_field`: the field of some pairs.
-- `none_allowed`: no pairs break no rule.
-- `pairs_at`: numbers of four bytes that stand there as a field are its pairs, unless they break a rule.
-- `pairs_read_back`: pairs that break no rule are read back from their field.
-- `pairs_written`: pairs that are read break no rule, and stand there as their field.
-- `pairs_reads`: they are read by their checks in order.
-- `pairs_are_bytes`, `pairs_short`: their field is a list of bytes, of which there are at most 8,195.
use Prim.Native.Nat.{ℕ, zero, suc, ◌+◌, ◌*◌, ◌/◌, ◌%◌, ◌^◌, ◌≤◌, ◌<◌}
use mathlib.Core.{Path.◌≡◌, Path.refl, Path.sym, Path.ap, Path.subst, Path.subst₂, Path.◌∙◌, Bool.Bool, Bool.true, Bool.false, Bool.cond, Bool.not, Bool.◌&&◌}
use mathlib.Core.{List.List, List.[], List.◌∷◌, List.◌++◌, Logic.◌↔◌, Logic.inl, Logic.inr}
use native.Mathlib.Omega.{arith}
use native.Mathlib.Nat.{add-zero, le_refl}
use lib.{Dec.eqb, Dec.leb, Dec.ltb, Dec.lit<, ListN.length, ListN.get_or}
use borrow.Author.Tests.{lt-ltb, ltb-true, ltb-false, le-leb, leb-true, eq-eqb, eqb-true, eqb-false, not-false}
use Rattle.lists.specs.Lists.{All, none, more}
use Rattle.jacobian.specs.Checks.{unless, check}
use Rattle.jacobian.proofs.{Checking.refusal_none, Checking.refusal_unless, ByValue.Checks.both}
use Rattle.stored_form.specs.{Number.decode_numbers, Number.encode_numbers, Number.Bytes, Number.part, Reading.found, Reading.refuse, Reading.checked, Head.body_length, Head.encode_field, Head.BytesAt, Head.pairs_limit, Reader.read_head_by}
use Rattle.stored_form.specs.Pairs.{later, earlier, pairs_length, pair_within, pairs_after, pairs_refusal, decode_pairs, pairs_field, read_pairs_field, read_pairs}
use Rattle.stored_form.proofs.{Readings.then_found, Readings.both_found, Readings.same_found, Readings.checked_found, Readings.checked_none, Readings.test_passed, Readings.refuse_found, Heads.head_found}
use Rattle.stored_form.proofs.{Lengths.length_stored, NumberLists.length_encode_numbers, NumberLists.length_decode_numbers, PairBytes.no_pairs, PairBytes.field_due}
use Rattle.stored_form_theorems.specs.{Fields.Field, Checking.after_field, Checking.head_checks}
use Rattle.stored_form_theorems.specs.Pairs.{PairsLength, PairWithin, Before, PairsAllowed, pairs_said, after_pairs, pairs_checks}
use Rattle.stored_form_theorems.proofs.{Elements.numbers_bytes, Elements.bytes_numbers, Bodies.whole_written, Bodies.head_read, Written.numbers_are_bytes, Written.field_bytes}
use Rattle.stored_form_theorems.proofs.{CheckedReadings.Reads, CheckedReadings.found_reads, CheckedReadings.refuse_reads, CheckedReadings.checked_reads, CheckedReadings.then_reads, Checking.head_reads}

-- ---- the rules

pub before_decides : (p q : ℕ) → (p < q) ↔ Before p q
before_decides p q = (forth, back)
  where
    forth : p < q → Before p q
    forth h = go (ltb (later p) (later q)) refl
      where
        go : (b : Bool) → ltb (later p) (later q) ≡ b → Before p q
        go true e = inl (ltb-true _ _ e)
        go false e = let l = ltb-false (later p) (later q) e in inr (omega arith, omega arith)

    back : Before p q → p < q
    back (inl h) = omega arith
    back (inr h) = let a = h.0 in let b = h.1 in omega arith

within_decides : (n p : ℕ) → (pair_within n p ≡ true) ↔ PairWithin n p
unfolding pair_within
within_decides n p = (
  λ e.
      let x = both (leb 1 (earlier p) && ltb (earlier p) (later p)) (leb (later p) n) e in
      let y = both (leb 1 (earlier p)) (ltb (earlier p) (later p)) x.0 in
      record { earlier_some = leb-true _ _ y.0; earlier_below = ltb-true _ _ y.1; later_within = leb-true _ _ x.1 },
  λ w. rw (le-leb 1 (earlier p) w.earlier_some, lt-ltb (earlier p) (later p) w.earlier_below, le-leb (later p) n w.later_within) refl,
)

-- pairs in ascending order after another number
data Chain (n : ℕ) : ℕ → List ℕ → Type 0 where
  stop : {last : ℕ} → Chain n last []
  link : {last p : ℕ} {ps : List ℕ} → last < p → PairWithin n p → Chain n p ps → Chain n last (p ∷ ps)

module _ (n : ℕ) where
  chain_of : (last : ℕ) (ps : List ℕ) → pairs_after n last ps ≡ true → Chain n last ps
  unfolding pairs_after
  chain_of last [] e = stop
  chain_of last (p ∷ ps) e =
      let x = both (ltb last p && pair_within n p) (pairs_after n p ps) e in
      let y = both (ltb last p) (pair_within n p) x.0 in
      link (ltb-true _ _ y.0) ((within_decides n p).0 y.1) (chain_of p ps x.1)

  chain_passes : {last : ℕ} {ps : List ℕ} → Chain n last ps → pairs_after n last ps ≡ true
  unfolding pairs_after
  chain_passes stop = refl
  chain_passes (link {last} {p} {ps} h w c) = rw (lt-ltb last p h, (within_decides n p).1 w, chain_passes c) refl

  chain_within : {last : ℕ} {ps : List ℕ} → Chain n last ps → All (PairWithin n) ps
  chain_within stop = none
  chain_within (link h w c) = more w (chain_within c)

  chain_ascends : {last : ℕ} {ps : List ℕ} → Chain n last ps → (i : ℕ) → suc i < length ps → Before (get_or ps i 0) (get_or ps (suc i) 0)
  chain_ascends stop i h = absurd (omega arith)
  chain_ascends (link h w stop) i l = absurd (omega arith)
  chain_ascends (link {p = p} h w (link {p = q} g v c)) zero l = (before_decides p q).0 g
  chain_ascends (link h w (link g v c)) (suc i) l = chain_ascends (link g v c) i (omega arith)

  chain_from : {last : ℕ} {ps : List ℕ} → All (PairWithin n) ps → ((i : ℕ) → suc i < length ps → Before (get_or ps i 0) (get_or ps (suc i) 0)) →
      ((p : ℕ) (qs : List ℕ) → ps ≡ p ∷ qs → last < p) → Chain n last ps
  chain_from none a f = stop
  chain_from (more {a = p} {l = []} w r) a f = link (f p [] refl) w stop
  chain_from (more {a = p} {l = q ∷ qs} w r) a f =
      link (f p (q ∷ qs) refl) w
      (chain_from r (λ i h. a (suc i) (omega arith)) (λ x xs e. subst (λ y. p < y) (ap (λ (l : List ℕ). get_or l 0 0) e) ((before_decides p q).1 (a 0 (omega arith)))))

  pub pairs_decide : (ps : List ℕ) → (pairs_after n 0 ps ≡ true) ↔ PairsAllowed n ps
  pairs_decide ps = (
    λ e. let c = chain_of 0 ps e in record { within = chain_within c; ascending = chain_ascends c },
    λ a. chain_passes (chain_from a.within a.ascending (first a.within)),
  )
    where
      first : {ps : List ℕ} → All (PairWithin n) ps → (p : ℕ) (qs : List ℕ) → ps ≡ p ∷ qs → 0 < p
      first none p qs e = let z : length {A = ℕ} [] ≡ suc (length qs) = ap length e in absurd (omega arith)
      first (more {a = x} w r) p qs e =
          let same : x ≡ p = ap (λ (l : List ℕ). get_or l 0 0) e in
          let h = w.earlier_some in
          omega arith

pub none_allowed : (n : ℕ) → PairsAllowed n []
none_allowed n = record { within = none; ascending = λ i h. absurd (omega arith) }

pub pairs_length_decides : (n : ℕ) → (pairs_length n ≡ true) ↔ PairsLength n
unfolding pairs_length
pairs_length_decides n = (
  λ e.
      let x = both (ltb 0 n && leb n 8192) (eqb (n % 4) 0) e in
      let y = both (ltb 0 n) (leb n 8192) x.0 in
      (ltb-true _ _ y.0, (leb-true _ _ y.1, eqb-true _ _ x.1)),
  λ h. rw (lt-ltb 0 n h.0, le-leb n 8192 h.1.0, eq-eqb (n % 4) 0 h.1.1) refl,
)

-- pairs in order have their later numbers in order
pub later_ascends : {n : ℕ} {ps : List ℕ} → PairsAllowed n ps → (i j : ℕ) → j ≤ i → i < length ps → later (get_or ps j 0) ≤ later (get_or ps i 0)
later_ascends {ps = ps} ok zero j h l = let e : j ≡ 0 = omega arith in rw e (le_refl _)
later_ascends {ps = ps} ok (suc i) j h l = go (eqb j (suc i)) refl (λ below. later_ascends ok i j below (omega arith))
  where
    step : Before (get_or ps i 0) (get_or ps (suc i) 0) → later (get_or ps i 0) ≤ later (get_or ps (suc i) 0)
    step (inl b) = omega arith
    step (inr b) = let e = b.0 in omega arith

    go : (b : Bool) → eqb j (suc i) ≡ b → (j ≤ i → later (get_or ps j 0) ≤ later (get_or ps i 0)) → later (get_or ps j 0) ≤ later (get_or ps (suc i) 0)
    go true e r = let same = eqb-true j (suc i) e in rw same (le_refl _)
    go false e r =
        let other = eqb-false j (suc i) e in
        let below = r (omega (arith, other)) in
        let next = step (ok.ascending i l) in
        omega (arith, below, next)

-- ---- bytes

-- pairs of fewer than 65,536 operations fit four bytes
pub pairs_small : (n : ℕ) → n < 65536 → {ps : List ℕ} → All (PairWithin n) ps → All (λ p. p < 256 ^ 4) ps
pairs_small n h none = none
pairs_small n h (more {a = p} w r) = let l = w.later_within in more {a = p} (omega arith) (pairs_small n h r)

-- the field of some pairs
pub some_field : (ps : List ℕ) → 0 < length ps → encode_field 0x48 (encode_numbers 4 ps) ≡ pairs_field ps
unfolding pairs_field
some_field [] h = absurd (omega arith)
some_field (p ∷ ps) h = refl

module _ (n : ℕ) (s : List ℕ) (at : ℕ) where
  pub pairs_at : (ps : List ℕ) → 0 < length ps → length ps ≤ 2048 → All (λ p. p < 256 ^ 4) ps → BytesAt s at (pairs_field ps) →
      read_pairs n s at ≡ checked (pairs_refusal n ps) (found ps (at + length (pairs_field ps)))
  unfolding read_pairs_field decode_pairs
  pairs_at ps some few fit stands =
      let body : List ℕ = encode_numbers 4 ps in
      let len : length body ≡ 4 * length ps = length_encode_numbers 4 ps in
      let number : length body / 4 ≡ length ps = omega (arith, len) in
      let field = some_field ps some in
      let r = head_read 0x48 pairs_length s at body ((pairs_length_decides (length body)).1 (omega (arith, len), (omega (arith, len), omega (arith, len)))) (omega (arith, len))
      (subst (BytesAt s at) (sym field) stands) in
      let w = head_found 0x48 pairs_length s at r.0 in
      let read = ap (λ (k : ℕ). decode_numbers 4 k body) number ∙ numbers_bytes 4 ps fit in
      field_due n s at (omega (arith, w.ends, w.fits)) w.due
      ∙ then_found _ r.0
      ∙ rw (r.1, read, field)

  pub pairs_read_back : (ps : List ℕ) → n < 65536 → PairsAllowed n ps → length ps ≤ 2048 → BytesAt s at (pairs_field ps) → length s ≡ at + length (pairs_field ps) →
      read_pairs n s at ≡ found ps (length s)
  unfolding pairs_field pairs_refusal unless
  pairs_read_back [] under ok few stands ends = let e : at ≡ length s = omega arith in no_pairs n s at (omega arith) ∙ ap (found []) e
  pairs_read_back (p ∷ ps) under ok few stands ends =
      pairs_at (p ∷ ps) (omega arith) few (pairs_small n under ok.within) stands
      ∙ checked_none (pairs_refusal n (p ∷ ps)) _ (rw ((pairs_decide n (p ∷ ps)).1 ok) refl)
      ∙ ap (found (p ∷ ps)) (sym ends)

-- pairs that were read
pub record PairsWritten (n : ℕ) (s : List ℕ) (at : ℕ) (ps : List ℕ) (next : ℕ) : Type 0 where
  pub field : Field s at (pairs_field ps) next
  pub allowed : PairsAllowed n ps
  pub few : length ps ≤ 2048

module _ (n : ℕ) (s : List ℕ) (at : ℕ) {ps : List ℕ} {next : ℕ} where
  field_written : Bytes s → read_pairs_field n s at ≡ found ps next → PairsWritten n s at ps next
  unfolding read_pairs_field decode_pairs pairs_refusal
  field_written b e =
      let p = both_found _ (read_head_by 0x48 pairs_length s at) e in
      let len = p.0 in
      let body = part s (at + 3) len in
      let c = checked_found _ _ p.3 in
      let same = same_found c.1 in
      let z = whole_written 0x48 pairs_length s at len p.1 b (head_found 0x48 pairs_length s at p.2) in
      let fits = (pairs_length_decides (length body)).0 z.allows in
      let is : encode_numbers 4 ps ≡ body = ap (encode_numbers 4) (sym same.0) ∙ bytes_numbers 4 (length body / 4) body (omega (arith, fits.1.1)) z.bytes in
      let number : length ps ≡ length body / 4 = ap length (sym same.0) ∙ length_decode_numbers 4 (length body / 4) body in
      let field : encode_field 0x48 body ≡ pairs_field ps = ap (encode_field 0x48) (sym is) ∙ some_field ps (omega (arith, number, fits.0, fits.1.1)) in
      record {
        field = subst₂ (λ (x : List ℕ) (y : ℕ). Field s at x y) field same.1 z.field;
        allowed = (pairs_decide n ps).0 (ap (pairs_after n 0) (sym same.0) ∙ test_passed _ (lit< tt) c.0);
        few = omega (arith, number, fits.1.0);
      }

  pub pairs_written : Bytes s → read_pairs n s at ≡ found ps next → PairsWritten n s at ps next
  unfolding read_pairs pairs_field
  pairs_written b e = go (leb (length s) at) e
    where
      -- no pairs at the end
      empty : (ps : List ℕ) (next : ℕ) → ps ≡ [] → next ≡ at → PairsWritten n s at ps next
      empty ps next f g = rw (f, g) (record { field = record { stands = refl; ends = sym (add-zero at) }; allowed = none_allowed n; few = omega arith })

      go : (t : Bool) → cond t (found [] at) (refuse 112 (not (eqb (get_or s at 0) 0x48)) (read_pairs_field n s at)) ≡ found ps next → PairsWritten n s at ps next
      go true e = let same = same_found e in empty ps next (sym same.0) (sym same.1)
      go false e = field_written b (refuse_found 112 (not (eqb (get_or s at 0) 0x48)) (read_pairs_field n s at) e).1

pub pairs_are_bytes : (ps : List ℕ) → Bytes (pairs_field ps)
unfolding pairs_field
pairs_are_bytes [] i = lit< tt
pairs_are_bytes (p ∷ ps) i = field_bytes 0x48 _ (lit< tt) (numbers_are_bytes 4 (p ∷ ps)) i

pub pairs_short : (ps : List ℕ) → length ps ≤ 2048 → length (pairs_field ps) ≤ 3 + pairs_limit
unfolding pairs_field
pairs_short [] h = omega arith
pairs_short (p ∷ ps) h = omega (arith, length_stored 0x48 (encode_numbers 4 (p ∷ ps)), length_encode_numbers 4 (p ∷ ps))

-- ---- the checks in order

module _ (n : ℕ) (s : List ℕ) (at : ℕ) where
  pub pairs_reads : Reads (pairs_checks n s at) (pairs_said s at) (after_pairs s at) (read_pairs n s at)
  unfolding read_pairs read_pairs_field pairs_refusal
  pairs_reads = go (leb (length s) at) refl
    where
      said : List ℕ
      said = decode_pairs (part s (at + 3) (body_length s at))

      go : (b : Bool) → leb (length s) at ≡ b →
          Reads (cond b [] (check 112 (get_or s at 0 ≡ 0x48) ∷ (head_checks 0x48 PairsLength s at ++ check 122 (PairsAllowed n (cond b [] said)) ∷ [])))
          (cond b [] said) (cond b at (after_field s at))
          (cond b (found [] at) (refuse 112 (not (eqb (get_or s at 0) 0x48)) (read_pairs_field n s at)))
      go true e = found_reads refusal_none
      go false e =
          refuse_reads 112 (not (eqb (get_or s at 0) 0x48)) (λ e. omega arith) (λ e. eqb-true _ _ (not-false _ e), λ p. rw (eq-eqb (get_or s at 0) 0x48 p) refl)
          (λ _. then_reads _ (read_head_by 0x48 pairs_length s at) (head_reads 0x48 pairs_length PairsLength pairs_length_decides s at)
          (λ held. checked_reads _ (refusal_unless _ 122 (λ z. omega arith) (pairs_decide n _))))
