-- Which refusals reading gives, and which the verdict: 2 to 10, and 11 to 14. Assumes nothing.
use mathlib.Core.Bool.{Bool, true, false, ◌&&◌}
use mathlib.Core.List.{List, [], ◌∷◌}
use Prim.Native.Nat.{ℕ, zero, suc, ◌+◌, ◌-◌, ◌*◌, ◌≤◌}
use native.Mathlib.Omega.{arith}
use lib.Dec.{eqb, ltb, leb}
use lib.ListN.{length, get_or}
use Rattle.model.specs.Lists.{any}
use Rattle.model.specs.Term.{Term}
use Rattle.model.specs.Limits.{last_version}
use Rattle.model.specs.Rules.{Rule, RuleSet, Entry, entries, wide, most_predicates, repeated, detached}
use Rattle.model.specs.Format.{Parsed, good, bad, and_then, byte, number, many, Signature, signed, variable, atom, atoms, sound, rule, rule_set, whole, read}
use Rattle.model.specs.Stages.{Stage, stage, Verdict, accepted, cyclic_at, refused, judge, verdict, too_large, too_many, cyclic_terms, grown, outputs}

-- a refusal, if it is one, from 2 to 10
abbrev pub Faulty : {A : Type 0} → Parsed A → Type 0
Faulty (good a i) = Unit {0}
Faulty (bad n i) = (2 ≤ n) × (n ≤ 10)

pub either : {A : Type 0} (b : Bool) (x y : Parsed A) → Faulty x → Faulty y → Faulty {A = A} (elim b [ true ↦ x | false ↦ y ])
either true x y h k = h
either false x y h k = k

pub and_then_faulty : {A B : Type 0} (x : Parsed A) (k : A → ℕ → Parsed B) → Faulty x → ((a : A) (i : ℕ) → Faulty (k a i)) → Faulty (and_then x k)
unfolding and_then
and_then_faulty (good a i) k h l = l a i
and_then_faulty (bad n i) k h l = h

many_faulty : {A : Type 0} (n : ℕ) (p : ℕ → Parsed A) → ((i : ℕ) → Faulty (p i)) → (i : ℕ) → Faulty (many n p i)
unfolding many
many_faulty zero p h i = tt
many_faulty (suc n) p h i =
    and_then_faulty (p i) (λ a j. and_then (many n p j) (λ as' k. good (a ∷ as') k)) (h i)
    (λ a j. and_then_faulty (many n p j) (λ as' k. good (a ∷ as') k) (many_faulty n p h j) (λ as' k. tt))

pub byte_faulty : (bs : List ℕ) (low high n i : ℕ) → 2 ≤ n → n ≤ 10 → Faulty (byte bs low high n i)
unfolding byte
byte_faulty bs low high n i h k =
    either (ltb i (length bs)) _ _ (either (leb low (get_or bs i 0) && leb (get_or bs i 0) high) _ _ tt (h, k)) (omega arith)

pub number_faulty : (w : Bool) (bs : List ℕ) (low high n i : ℕ) → 2 ≤ n → n ≤ 10 → Faulty (number w bs low high n i)
unfolding number
number_faulty false bs low high n i h k = byte_faulty bs low high n i h k
number_faulty true bs low high n i h k =
    let v : ℕ = get_or bs i 0 * 256 + get_or bs (suc i) 0 in
    either (ltb (suc i) (length bs)) _ _ (either (leb low v && leb v high) (good v (suc (suc i))) (bad n i) tt (h, k)) (omega arith)

atom_faulty : (bs : List ℕ) (s : Signature) (i : ℕ) → Faulty (atom bs s i)
unfolding atom variable
atom_faulty bs s i =
    and_then_faulty (number (wide s.version) bs 0 (length s.arities - 1) 7 i) _
    (number_faulty (wide s.version) bs 0 (length s.arities - 1) 7 i (omega arith) (omega arith)) (λ p j.
    and_then_faulty (many (get_or s.arities p 0) (variable bs) j) _
    (many_faulty (get_or s.arities p 0) (variable bs) (λ l. byte_faulty bs 0 7 7 l (omega arith) (omega arith)) j)
    (λ vs k. tt))

atoms_faulty : (bs : List ℕ) (s : Signature) (i : ℕ) → Faulty (atoms bs s i)
unfolding atoms
atoms_faulty bs s i = and_then_faulty (byte bs 1 4 6 i) _ (byte_faulty bs 1 4 6 i (omega arith) (omega arith)) (λ n j. many_faulty n (atom bs s) (atom_faulty bs s) j)

sound_faulty : (r : Rule) (start i : ℕ) → Faulty (sound r start i)
unfolding sound
sound_faulty r start i = either (repeated r r.head) _ _ (omega arith) (either (any (detached r) r.head) _ _ (omega arith) tt)

rule_faulty : (bs : List ℕ) (s : Signature) (i : ℕ) → Faulty (rule bs s i)
unfolding rule
rule_faulty bs s i =
    and_then_faulty (atoms bs s i) _ (atoms_faulty bs s i) (λ b j.
    and_then_faulty (byte bs 1 4 6 j) _ (byte_faulty bs 1 4 6 j (omega arith) (omega arith)) (λ n k.
    and_then_faulty (many n (atoms bs s) k) _ (many_faulty n (atoms bs s) (atoms_faulty bs s) k) (λ h l.
    sound_faulty (record { body = b; head = h }) i l)))

pub rule_set_faulty : (bs : List ℕ) → Faulty (rule_set bs)
unfolding rule_set
rule_set_faulty bs =
    and_then_faulty (byte bs 1 last_version 3 4) _ (byte_faulty bs 1 last_version 3 4 (omega arith) (omega arith)) (λ v i.
    and_then_faulty (number (wide v) bs 1 (most_predicates v) 4 i) _ (number_faulty (wide v) bs 1 (most_predicates v) 4 i (omega arith) (omega arith)) (λ n j.
    and_then_faulty (many n (byte bs 1 4 4) j) _ (many_faulty n (byte bs 1 4 4) (λ l. byte_faulty bs 1 4 4 l (omega arith) (omega arith)) j) (λ arities k.
    and_then_faulty (byte bs 0 64 5 k) _ (byte_faulty bs 0 64 5 k (omega arith) (omega arith)) (λ m l.
    and_then_faulty (many m (rule bs (signed v arities)) l) _ (many_faulty m (rule bs (signed v arities)) (rule_faulty bs (signed v arities)) l) (λ rs e.
    either (eqb e (length bs)) _ _ tt (omega arith))))))

pub read_faulty : (bs : List ℕ) → Faulty (read bs)
unfolding read
read_faulty bs = either (whole bs) _ _ (rule_set_faulty bs) (omega arith)

-- a refusal, if it is one, from 11 to 14
abbrev pub Excessive : Verdict → Type 0
Excessive (accepted n f t) = Unit {0}
Excessive (cyclic_at n f t) = Unit {0}
Excessive (refused n p) = (11 ≤ n) × (n ≤ 14)

if_excessive : (b : Bool) (x y : Verdict) → Excessive x → Excessive y → Excessive (elim b [ true ↦ x | false ↦ y ])
if_excessive true x y h k = h
if_excessive false x y h k = k

some_excessive : (ts : List Term) (x y : Verdict) → Excessive x → Excessive y → Excessive (elim ts [ t ∷ us ↦ x | [] ↦ y ])
some_excessive [] x y h k = k
some_excessive (t ∷ us) x y h k = h

pub judge_excessive : (d k : ℕ) (es : List Entry) (n : ℕ) (s : Stage) → Excessive (judge d k es n s)
unfolding judge
judge_excessive d zero es n s = omega arith
judge_excessive d (suc k) es n s =
    if_excessive (too_large es s) _ _ (omega arith)
    (if_excessive (too_many es s) _ _ (omega arith)
    (some_excessive (cyclic_terms d es s) _ _ tt
    (if_excessive (ltb 2048 (length (grown s (outputs es s)).facts)) _ _ (omega arith)
    (if_excessive (ltb 512 (length (grown s (outputs es s)).terms)) _ _ (omega arith)
    (if_excessive (eqb (length (grown s (outputs es s)).facts) (length s.facts)) _ _ tt (judge_excessive d k es (suc n) (grown s (outputs es s))))))))

pub verdict_excessive : (d : ℕ) (b : RuleSet) → Excessive (verdict d b)
unfolding verdict
verdict_excessive d b = if_excessive (ltb 2048 (length (stage b 0).facts)) _ _ (omega arith) (judge_excessive d 2049 (entries b) 0 (stage b 0))
