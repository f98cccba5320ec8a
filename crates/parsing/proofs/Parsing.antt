-- Laws of the definitions' parsers, by cases, and what an answer of the code says of a parse. Assumes nothing.
use mathlib.Core.Path.{◌≡◌, refl, sym, ap, ◌∙◌}
use mathlib.Core.Logic.{◌⊎◌, inl, inr}
use mathlib.Core.List.{List}
use Prim.Native.Nat.{ℕ, ◌+◌, ◌≤◌, ◌<◌}
use native.Mathlib.Omega.{arith}
use native.Mathlib.Numerals.{add-one}
use native.Mathlib.Decide.{dec_lt}
use lib.ListN.{length, get_or}
use borrow.Author.Tests.{lt-ltb, le-ltb, le-leb, lt-leb}
use Rattle.model.specs.Format.{Parsed, good, bad, and_then, byte, variable}
use Rattle.std.specs.Result.{IsErrAnd}
use Rattle.std.proofs.lemmas.Result.{err_from_is_err_and}
use Rattle.std.specs.declared.result.Result.{Result}
use Rattle.std.specs.declared.result.Result.TheVariants.{Ok, Err}
use Rattle.refusal.specs.declared.Refused.{Refused}
use Rattle.refusal.specs.Numbers.{number_of}
use Rattle.parsing.specs.Step.{kept_of, Filled}
use Rattle.parsing.specs.declared.Parsed.{Parsed as Read}

-- `byte` by cases

module _ (bs : List ℕ) (low high refusal i : ℕ) where
  pub byte_ended : length bs ≤ i → byte bs low high refusal i ≡ bad 10 (length bs)
  unfolding byte
  byte_ended h = rw (le-ltb i (length bs) h, byte)

  pub byte_below : i < length bs → get_or bs i 0 < low → byte bs low high refusal i ≡ bad refusal i
  unfolding byte
  byte_below h l = rw (lt-ltb i (length bs) h, lt-leb low (get_or bs i 0) l, byte)

  pub byte_above : i < length bs → low ≤ get_or bs i 0 → high < get_or bs i 0 → byte bs low high refusal i ≡ bad refusal i
  unfolding byte
  byte_above h l k = rw (lt-ltb i (length bs) h, le-leb low (get_or bs i 0) l, lt-leb (get_or bs i 0) high k, byte)

  pub byte_outside : i < length bs → (get_or bs i 0 < low) ⊎ ((low ≤ get_or bs i 0) × (high < get_or bs i 0)) → byte bs low high refusal i ≡ bad refusal i
  byte_outside h (inl l) = byte_below h l
  byte_outside h (inr (l, k)) = byte_above h l k

  pub byte_within : i < length bs → low ≤ get_or bs i 0 → get_or bs i 0 ≤ high → byte bs low high refusal i ≡ good (get_or bs i 0) (i + 1)
  unfolding byte
  byte_within h l k = rw (add-one, lt-ltb i (length bs) h, le-leb low (get_or bs i 0) l, le-leb (get_or bs i 0) high k, byte)

-- the value of a parse of which the code kept v
pub record Parses {A V : Type 0} (keep : A → V) (parsed : Parsed A) (v : V) (i : ℕ) : Type 0 where
  pub result : A
  pub parse : parsed ≡ good result i
  pub kept : keep result ≡ v

pub bad_is_not_good : {A : Type 0} {P : Type 0} (parsed : Parsed A) (n p : ℕ) (a : A) (j : ℕ) → parsed ≡ bad n p → parsed ≡ good a j → P
bad_is_not_good parsed n p a j e f = absurd (let z : ◌≡◌ {A = ℕ} 0 1 = cc in omega arith)

module _ {A V : Type 0} (keep : A → V) where
  pub step_good : (parsed : Parsed A) (v : V) (i : ℕ) → good v i ≡ kept_of keep parsed → Parses keep parsed v i
  unfolding kept_of
  step_good (good a j) v i e =
      let f : keep a ≡ v = cc in
      let g : j ≡ i = cc in
      record { result = a; parse = ap (good a) g; kept = f }
  step_good (bad n p) v i e = bad_is_not_good (bad n p) n p v i refl (sym e)

  pub step_bad : (parsed : Parsed A) (n p : ℕ) → bad n p ≡ kept_of keep parsed → parsed ≡ bad n p
  unfolding kept_of
  step_bad (good a j) n p e = bad_is_not_good (good (keep a) j) n p (keep a) j (sym e) refl
  step_bad (bad m q) n p e =
      let f : m ≡ n = cc in
      let g : q ≡ p = cc in
      cc

-- a `?` hands on the refusal that it met
pub handed_on : {T : Type 0} {e : Refused} {r : Result T Refused} → IsErrAnd r (λ f. f ≡ e) → r ≡ Err e
handed_on {r = r} h = let p = err_from_is_err_and r h in p.1 ∙ ap Err p.2

-- the bounds of a byte that was read

pub record Within (bs : List ℕ) (low high i v j : ℕ) : Type 0 where
  pub value : v ≡ get_or bs i 0
  pub least : low ≤ v
  pub most : v ≤ high
  pub next : j ≡ i + 1

pub byte_good : (bs : List ℕ) (low high refusal i v j : ℕ) → byte bs low high refusal i ≡ good v j → Within bs low high i v j
byte_good bs low high refusal i v j e = go (dec_lt i (length bs)) (dec_lt (get_or bs i 0) low) (dec_lt high (get_or bs i 0))
  where
    go : Dec (i < length bs) → Dec (get_or bs i 0 < low) → Dec (high < get_or bs i 0) → Within bs low high i v j
    go (no h) k l = bad_is_not_good _ _ _ _ _ (byte_ended bs low high refusal i (omega arith)) e
    go (yes h) (yes k) l = bad_is_not_good _ _ _ _ _ (byte_below bs low high refusal i h k) e
    go (yes h) (no k) (yes l) = bad_is_not_good _ _ _ _ _ (byte_above bs low high refusal i h (omega arith) l) e
    go (yes h) (no k) (no l) =
        let g : good (get_or bs i 0) (i + 1) ≡ good v j = sym (byte_within bs low high refusal i h (omega arith) (omega arith)) ∙ e in
        let f : get_or bs i 0 ≡ v = cc in
        let n : i + 1 ≡ j = cc in
        record { value = sym f; least = omega arith; most = omega arith; next = sym n }

pub variable_good : (bs : List ℕ) (i v j : ℕ) → variable bs i ≡ good v j → Within bs 0 7 i v j
unfolding variable
variable_good bs i v j e = byte_good bs 0 7 7 i v j e

-- What a parser answers and leaves, by the parsers that it is made of

module _ {A V : Type 0} (keep : A → V) (row : A → List ℕ) (parsed : Parsed A) (left : List ℕ) where
  pub filled_good : (a : A) (v : V) (j : ℕ) → parsed ≡ good a j → v ≡ keep a → left ≡ row a → Filled keep row parsed (Ok (record { value = v; next = j })) left
  unfolding kept_of
  filled_good a v j e k l =
      record { answer = rw (e, k); stored = λ b i f. let g : a ≡ b = cc in l ∙ ap row g }

  pub filled_bad : (e : Refused) → parsed ≡ bad (number_of e.refusal) e.place → Filled keep row parsed (Err e) left
  unfolding kept_of
  filled_bad e f = record { answer = rw f; stored = λ a j g. bad_is_not_good parsed _ _ a j f g }

module _ {A B V : Type 0} (row : B → List ℕ) (keep : B → V) (parsed : Parsed A) (then : A → ℕ → Parsed B) (left : List ℕ) where
  pub refuses : (e : Refused) → parsed ≡ bad (number_of e.refusal) e.place → Filled keep row (and_then parsed then) (Err e) left
  unfolding and_then
  refuses e f = filled_bad keep row (and_then parsed then) left e (rw f)

  pub continues : (r : Result (Read V) Refused) (a : A) (j : ℕ) → parsed ≡ good a j → Filled keep row (then a j) r left → Filled keep row (and_then parsed then) r left
  unfolding and_then
  continues r a j e h = rw e h

module _ {A B V : Type 0} (f : A → B) (keepA : A → V) (keep : B → V) (rowA : A → List ℕ) (row : B → List ℕ) where
  pub maps : (parsed : Parsed A) (r : Result (Read V) Refused) (leftA left : List ℕ) → ((a : A) → keepA a ≡ keep (f a)) → ((a : A) → leftA ≡ rowA a → left ≡ row (f a))
      → Filled keepA rowA parsed r leftA → Filled keep row (and_then parsed (λ a j. good (f a) j)) r left
  unfolding and_then kept_of
  maps (good a i) r leftA left k s h =
      record { answer = h.answer ∙ ap (λ (v : V). good v i) (k a); stored = λ b j e. let g : f a ≡ b = cc in s a (h.stored a i refl) ∙ ap row g }
  maps (bad n p) r leftA left k s h = record { answer = h.answer; stored = λ b j e. bad_is_not_good (bad n p) n p b j refl e }

-- the same parse, with more of the row
pub refill : {A V : Type 0} (keep : A → V) (rowA row : A → List ℕ) (parsed : Parsed A) (r : Result (Read V) Refused) (leftA left : List ℕ)
    → ((a : A) (j : ℕ) → parsed ≡ good a j → leftA ≡ rowA a → left ≡ row a) → Filled keep rowA parsed r leftA → Filled keep row parsed r left
refill keep rowA row parsed r leftA left s h = record { answer = h.answer; stored = λ a j e. s a j e (h.stored a j e) }

pub and_then_good : {A B : Type 0} (parsed : Parsed A) (k : A → ℕ → Parsed B) (a : A) (j : ℕ) → parsed ≡ good a j → and_then parsed k ≡ k a j
unfolding and_then
and_then_good parsed k a j e = rw e

pub and_then_bad : {A B : Type 0} (parsed : Parsed A) (k : A → ℕ → Parsed B) (n p : ℕ) → parsed ≡ bad n p → and_then parsed k ≡ bad n p
unfolding and_then
and_then_bad parsed k n p e = rw e
