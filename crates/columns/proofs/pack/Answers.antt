-- `columns::pack` meets its contract. Assumes nothing.
use native.Mathlib.Omega.{arith}
use Rattle.columns_model.proofs.Answers.{packed_few_terms, packed_few_facts, packed_few_bytes, packed_many_terms, packed_many_facts, lists_long}
use Rattle.columns_model.proofs.Stores.{within_holds}
use Rattle.columns.proofs.Written.{packed_written}
use Rattle.columns.proofs.pack.Goals.{then-terms-lt-TERMS_FRONT-via-then-terms-lt-TERMS_FRONT, then-terms-lt-TERMS_FRONT-via-else-terms-lt-TERMS_FRONT+then-facts-lt-FACTS_FRONT, then-terms-lt-TERMS_FRONT-via-else-terms-lt-TERMS_FRONT+else-facts-lt-FACTS_FRONT+then-out-lt-STORE_ROOM, then-t-gt-TERM_LIMIT-via-then-t-gt-TERM_LIMIT, then-t-gt-TERM_LIMIT-via-else-t-gt-TERM_LIMIT+then-f-gt-FACT_LIMIT}
use Rattle.columns.proofs.pack.Goals as goal

pub returns-then-terms-lt-TERMS_FRONT : goal.returns-then-terms-lt-TERMS_FRONT
returns-then-terms-lt-TERMS_FRONT c =
    elim c.then-terms-lt-TERMS_FRONT.branch [
      | then-terms-lt-TERMS_FRONT-via-then-terms-lt-TERMS_FRONT w ↦ packed_few_terms _ _ _ _ _ w.if-terms-lt-TERMS_FRONT.true
      | then-terms-lt-TERMS_FRONT-via-else-terms-lt-TERMS_FRONT+then-facts-lt-FACTS_FRONT w ↦ packed_few_facts _ _ _ _ _ w.if-terms-lt-TERMS_FRONT.false w.if-facts-lt-FACTS_FRONT.true
      | then-terms-lt-TERMS_FRONT-via-else-terms-lt-TERMS_FRONT+else-facts-lt-FACTS_FRONT+then-out-lt-STORE_ROOM w ↦ packed_few_bytes _ _ _ _ _ w.if-terms-lt-TERMS_FRONT.false w.if-facts-lt-FACTS_FRONT.false w.if-out-lt-STORE_ROOM.true
    ]

pub returns-then-t-gt-TERM_LIMIT : goal.returns-then-t-gt-TERM_LIMIT
returns-then-t-gt-TERM_LIMIT c =
    elim c.then-t-gt-TERM_LIMIT.branch [
      | then-t-gt-TERM_LIMIT-via-then-t-gt-TERM_LIMIT w ↦ packed_many_terms _ _ _ _ _ (omega arith) (omega arith) (omega arith) w.if-t-gt-TERM_LIMIT.true
      | then-t-gt-TERM_LIMIT-via-else-t-gt-TERM_LIMIT+then-f-gt-FACT_LIMIT w ↦ packed_many_facts _ _ _ _ _ (omega arith) (omega arith) (omega arith) w.if-t-gt-TERM_LIMIT.false w.if-f-gt-FACT_LIMIT.true
    ]

pub returns : goal.returns
returns c =
    let a = c.args in
    let i = c.if-f-gt-FACT_LIMIT.false in
    let j = c.if-t-gt-TERM_LIMIT.false in
    let k = c.if-out-lt-STORE_ROOM.false in
    packed_written a.t a.f a.terms.now a.facts.now a.out.now c.put_head.new.out c.put_columns.new.out c.put_columns-2.new.out c.store_length.result
    (lists_long a.t a.f a.terms.now a.facts.now a.out.now c.if-terms-lt-TERMS_FRONT.false c.if-facts-lt-FACTS_FRONT.false k)
    (within_holds (record { terms = j; facts = i }))
    (omega arith) c.put_head.ensures c.put_columns.ensures c.put_columns-2.ensures c.store_length.ensures
