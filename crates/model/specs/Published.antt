-- The published notions, as inductive definitions (001, Definitions 3 and 4; 004, Definitions 39 to 50). `Blocking` and `Stages` compute them,
-- and nothing of the two is used here. Where rules name constants, which 004's do not, three notions go beyond the papers by document 02, C-16:
-- `Renamed`, `Blocks` and `Leaf`. Assumes nothing.
use Rattle.std.specs.Prelude.{◌≡◌, Bool, true, false, ◌||◌, ℕ, ◌<◌, ltb, length, get_or}
use mathlib.Core.List.{List, [], map, Memᴰ}
use Rattle.model.specs.Lists.{member}
use Rattle.model.specs.Term.{Position, root, child, Term, Terms, star, constant, fixed, apart, fresh, skolem, none, more, list, functions, functions_all, is_fixed}
use Rattle.model.specs.Rules.{Atom, Rule, RuleSet, Disjunct, Entry, entries, in_body, universal, frontier, datalog, blockable, owns}
use Rattle.model.specs.Triggers.{Fact, assign, instantiate, head_facts, output}

-- a cyclic term: some Skolem function stands properly inside a subterm that it heads (001, section 2). `Term` has the notion of every depth,
-- of which this is depth 1
unfoldable mutual
  pub repeats : Term → Bool
  repeats star = false
  repeats (constant c) = false
  repeats (fixed c) = false
  repeats (apart p) = false
  repeats (fresh t v) = false
  repeats (skolem f ts) = member f (functions_all ts) || repeats_any ts

  pub repeats_any : Terms → Bool
  repeats_any none = false
  repeats_any (more t ts) = repeats t || repeats_any ts

-- a substitution of a rule: a term for each variable of its body
abbrev pub Substitution : Rule → List Term → Type 0
Substitution r m = length m ≡ length (universal r)

-- τ_v(t, l) (004, Definition 45): a position is v and l together, arguments counted from 0. A constant is a term without Skolem functions. The
-- rules of 004 name no constants; those that rules name keep their names (document 02, C-16).
pub data Renamed : Term → Position → Term → Type 0 where
  renamed_constant : {t : Term} {p : Position} → functions t ≡ [] → is_fixed t ≡ false → Renamed t p (apart p)
  renamed_fixed : {c : ℕ} {p : Position} → Renamed (fixed c) p (fixed c)
  renamed_skolem : {f : ℕ} {ts us : Terms} {p : Position} → length (list us) ≡ length (list ts)
      → ((k : ℕ) → k < length (list ts) → Renamed (get_or (list ts) k star) (child p k) (get_or (list us) k star)) → Renamed (skolem f ts) p (skolem f us)

-- u is θ_u for the substitution θ = m (004, Definition 45)
pub record Apart (r : Rule) (m u : List Term) : Type 0 where
  pub total : Substitution r u
  pub each : (v : ℕ) → Memᴰ v (universal r) → Renamed (assign (universal r) m v) (root v) (assign (universal r) u v)

-- on the variables of rule r's body σ is θᵗ, where t has the arguments ts (004, Definition 39)
pub record Template (t : Term) (ts : Terms) (r : Rule) (σ : ℕ → Term) : Type 0 where
  pub arguments : (v : ℕ) → Memᴰ v (frontier r) → σ v ≡ assign (frontier r) (list ts) v
  pub others : (v : ℕ) → in_body r v ≡ true → (Memᴰ v (frontier r) → ⊥) → σ v ≡ fresh t v

-- The rules whose triggers may be blocked: those that are not Datalog (004, Definition 42). That triggers of blockable rules alone are then
-- blocked is a theorem, but not where rules name constants; from version 3 on it is said (document 02, C-16).
abbrev pub Blocks : Bool → Rule → Type 0
Blocks true r = blockable r ≡ true
Blocks false r = datalog r ≡ false

module _ (b : RuleSet) where
  -- d is the disjunct with the existential variable z that f is the Skolem function of; its rule is rule(z) (004, before Definition 39)
  pub record Owner (f : ℕ) (d : Disjunct) : Type 0 where
    pub entry : Entry
    pub known : Memᴰ entry (entries b)
    pub disjunct : Memᴰ d entry.disjuncts
    pub owner : owns f d ≡ true

  -- F_t: the facts that must have made t (004, Definition 39)
  pub data Made : Term → Fact → Type 0 where
    made_body : {f : ℕ} {ts : Terms} {g : Fact} (d : Disjunct) (σ : ℕ → Term) → Owner f d → Template (skolem f ts) ts d.rule σ
        → Memᴰ g (map (instantiate σ) d.rule.body) → Made (skolem f ts) g
    made_head : {f : ℕ} {ts : Terms} {g : Fact} (d : Disjunct) (σ : ℕ → Term) → Owner f d → Template (skolem f ts) ts d.rule σ
        → Memᴰ g (head_facts σ d) → Made (skolem f ts) g
    made_inner : {f : ℕ} {ts : Terms} {g : Fact} (s : Term) → Memᴰ s (list ts) → Made s g → Made (skolem f ts) g

  -- the least set that contains a base and is closed under the Datalog rules (004: R*_dlog)
  pub data Closed (base : Fact → Type 0) : Fact → Type 0 where
    given : {f : Fact} → base f → Closed base f
    derived : {f : Fact} (e : Entry) (m : List Term) → Memᴰ e (entries b) → datalog e.rule ≡ true → Substitution e.rule m
        → ((a : Atom) → Memᴰ a e.rule.body → Closed base (instantiate (assign (universal e.rule) m) a))
        → Memᴰ f (output (assign (universal e.rule) m) e.disjuncts) → Closed base f

  -- what F_ρ,θ is the closure of: the body, and F_t of each argument t in it, which has F_s of the terms s inside t (004, Definition 42)
  pub data TestBase (r : Rule) (σ : ℕ → Term) : Fact → Type 0 where
    base_body : {g : Fact} → Memᴰ g (map (instantiate σ) r.body) → TestBase r σ g
    base_made : {f g : Fact} (t : Term) → Memᴰ f (map (instantiate σ) r.body) → Memᴰ t f.arguments → Made t g → TestBase r σ g

  -- the rules of this rule set whose triggers may be blocked
  abbrev pub MayBlock : Rule → Type 0
  MayBlock r = Blocks (ltb 2 b.version) r

  -- a trigger that is weakly blocked in the context of the rule set (004, Definition 42)
  abbrev pub WeaklyBlocked : Entry → (ℕ → Term) → Type 0
  WeaklyBlocked e σ =
      MayBlock e.rule
      × (d : Disjunct)
      × Memᴰ d e.disjuncts
      × ((f : Fact) → Memᴰ f (head_facts σ d) → Closed (TestBase e.rule σ) f)

  -- a trigger that is blocked in the context of the rule set (004, Definition 47)
  abbrev pub Blocked : Entry → List Term → Type 0
  Blocked e m = (u : List Term) × Apart e.rule m u × WeaklyBlocked e (assign (universal e.rule) u)

  -- ⋆ and the rule constants (document 02, C-16; 004 has none)
  pub data Leaf : Term → Type 0 where
    leaf_star : Leaf star
    leaf_fixed : {c : ℕ} → c < b.fixed → Leaf (fixed c)

  -- the critical instance: every fact over ⋆ (001, Definition 3); where rules name constants, over ⋆ and these (document 02, C-16)
  pub record Critical (f : Fact) : Type 0 where
    pub declared : f.predicate < length b.arities
    pub arity : length f.arguments ≡ get_or b.arities f.predicate 0
    pub leaves : (t : Term) → Memᴰ t f.arguments → Leaf t

  -- DMFA(R): the least set that contains the critical instance and the output of every loaded trigger that is not blocked
  -- (001, Definition 4; 004, Definition 50)
  pub data Dmfa : Fact → Type 0 where
    start : {f : Fact} → Critical f → Dmfa f
    step : {f : Fact} (e : Entry) (m : List Term) → Memᴰ e (entries b) → Substitution e.rule m
        → ((a : Atom) → Memᴰ a e.rule.body → Dmfa (instantiate (assign (universal e.rule) m) a))
        → (Blocked e m → ⊥)
        → Memᴰ f (output (assign (universal e.rule) m) e.disjuncts) → Dmfa f
