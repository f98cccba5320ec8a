-- `columns::unpack` meets its contract. Assumes nothing.
use mathlib.Core.Path.{sym, ap, ap₂, ◌∙◌}
use mathlib.Core.List.{List}
use Prim.Native.Nat.{ℕ, ◌+◌, ◌*◌}
use native.Mathlib.Omega.{arith}
use lib.ListN.{drop}
use Rattle.model.specs.Tables.{fronted}
use Rattle.columns_model.specs.Differences.{numbers_of}
use Rattle.columns_model.specs.Columns.{raised}
use Rattle.columns_model.specs.Store.{counts, stored_terms, stored_facts}
use Rattle.columns_model.proofs.Answers.{enough, unpacked_few_terms, unpacked_few_facts, unpacked_faulty, unpacked_good}
use Rattle.columns_model.proofs.Stores.{parts}
use Rattle.columns.proofs.unpack.Goals.{then-terms-lt-TERMS_FRONT-via-then-terms-lt-TERMS_FRONT, then-terms-lt-TERMS_FRONT-via-else-terms-lt-TERMS_FRONT+then-facts-lt-FACTS_FRONT}
use Rattle.columns.proofs.unpack.Goals as goal

-- past the tests

pub returns-then-terms-lt-TERMS_FRONT : goal.returns-then-terms-lt-TERMS_FRONT
returns-then-terms-lt-TERMS_FRONT c =
    elim c.then-terms-lt-TERMS_FRONT.branch [
      | then-terms-lt-TERMS_FRONT-via-then-terms-lt-TERMS_FRONT w ↦ unpacked_few_terms _ _ _ w.if-terms-lt-TERMS_FRONT.true
      | then-terms-lt-TERMS_FRONT-via-else-terms-lt-TERMS_FRONT+then-facts-lt-FACTS_FRONT w ↦ unpacked_few_facts _ _ _ w.if-terms-lt-TERMS_FRONT.false w.if-facts-lt-FACTS_FRONT.true
    ]

pub returns-then-not-is_sound : goal.returns-then-not-is_sound
returns-then-not-is_sound c =
    let a = c.args in
    unpacked_faulty a.store.now a.terms.now a.facts.now (enough a.terms.now a.facts.now c.if-terms-lt-TERMS_FRONT.false c.if-facts-lt-FACTS_FRONT.false)
    (sym c.is_sound.ensures ∙ c.if-not-is_sound.true)

pub count_at-t-requires : goal.count_at-t-requires
count_at-t-requires c = let p = (parts _ (sym c.is_sound.ensures ∙ c.if-not-is_sound.false)).long in omega arith

pub count_at-f-requires : goal.count_at-f-requires
count_at-f-requires c = let p = (parts _ (sym c.is_sound.ensures ∙ c.if-not-is_sound.false)).long in omega arith

pub fill-requires : goal.fill-requires
fill-requires c =
    let p = parts _ (sym c.is_sound.ensures ∙ c.if-not-is_sound.false) in
    let few = p.few.terms in
    let fits = p.fits in
    let t = c.count_at-t.ensures.0 in
    let l = c.if-terms-lt-TERMS_FRONT.false in
    record { has = record { records = omega arith; room = omega arith }; width_bound = (omega arith, l) }

pub fill-requires-2 : goal.fill-requires-2
fill-requires-2 c =
    let p = parts _ (sym c.is_sound.ensures ∙ c.if-not-is_sound.false) in
    let few = p.few.facts in
    let fits = p.fits in
    let t = c.count_at-t.ensures.0 in
    let f = c.count_at-f.ensures.0 in
    let l = c.if-facts-lt-FACTS_FRONT.false in
    record { has = record { records = omega arith; room = omega arith }; width_bound = (omega arith, l) }

pub returns : goal.returns
unfolding stored_terms stored_facts
returns c =
    let a = c.args in
    let bs : List ℕ = a.store.now in
    let t = c.count_at-t.ensures.0 in
    let f = c.count_at-f.ensures.0 in
    let terms-filled =
    c.fill.ensures ∙ ap (λ (n : ℕ). fronted 5130 (raised 10 n (numbers_of (drop 9 bs))) a.terms.now) t
    in
    let facts-filled =
    c.fill-2.ensures ∙ ap₂ (λ (n k : ℕ). fronted 10240 (raised 5 n (numbers_of (drop (9 + k * 20) bs))) a.facts.now) f t
    in
    unpacked_good bs a.terms.now a.facts.now (enough a.terms.now a.facts.now c.if-terms-lt-TERMS_FRONT.false c.if-facts-lt-FACTS_FRONT.false) (sym c.is_sound.ensures ∙ c.if-not-is_sound.false)
    ∙ (λ i. record { answer = counts (sym t i) (sym f i); terms = sym terms-filled i; facts = sym facts-filled i })
