-- `reader::rule` meets its contract: body, count and disjuncts into one row, and then the whole rule tested. Assumes nothing.
use mathlib.Core.Path.{◌≡◌, sym, ◌∙◌}
use native.Mathlib.Omega.{arith}
use lib.ListN.{length}
use Rattle.model.specs.Format.{good, many, byte, signed, atoms, rule}
use Rattle.model.specs.Form.{rule_row}
use Rattle.parsing.specs.Step.{atoms_set}
use Rattle.parsing.specs.Heads.{fault}
use Rattle.parsing.proofs.Lists.{zeros_length}
use Rattle.parsing.proofs.Many.{many_length}
use Rattle.parsing.proofs.Parsing.{Parses, handed_on, step_good, step_bad, byte_good, refuses, continues}
use Rattle.parsing.proofs.Heads.{of}
use Rattle.reader.proofs.RuleRow.{headed, body_zeros, body_length, head_zeros, headed_rule, rule_good, rule_bad}
use Rattle.reader.proofs.rule.Goals as goal
use Rattle.reader.proofs.rule.Goals.{After-atoms, In_ok-body, After-from-2, In_ok-head}

-- what the places of the code have: the width of the body's part of the row, the body, the count, and then the whole row and the head

left_length : (c : After-atoms) → length c.atoms.new.row ≡ 21
left_length c = body_length c.args.row.now c.requires.row_value c.atoms.new.row c.atoms.auto.row

body : (c : In_ok-body) → Parses atoms_set (atoms c.args.bytes.now (signed c.args.version c.args.arities.now) c.args.i) c.in_ok-body.body.value c.in_ok-body.body.next
body c = step_good atoms_set _ _ _ c.in_ok-body.ensures.answer

pub slice_bounds-atoms-end : goal.slice_bounds-atoms-end
slice_bounds-atoms-end c = omega (arith, zeros_length 106 _ c.requires.row_value)

pub atoms-requires-clause-row_value : goal.atoms-requires-clause-row_value
atoms-requires-clause-row_value c = body_zeros _ c.requires.row_value

pub returns-in_err-body : goal.returns-in_err-body
unfolding rule
returns-in_err-body c = rw (handed_on c.from_residual.ensures.1) (refuses _ _ _ _ _ _ (step_bad atoms_set _ _ _ c.in_err-body.ensures.answer))

pub returns-in_err-n : goal.returns-in_err-n
unfolding rule
returns-in_err-n c =
    rw (handed_on c.from_residual-in_err-n.ensures.1)
    (continues _ _ _ _ _ _ _ _ (body (goal.at.returns-in_err-n c).In_ok-body).parse (refuses _ _ _ _ _ _ (sym c.in_err-n.ensures)))

-- the count, as the loop has it
count : (c : After-from-2) → byte c.args.bytes.now 1 4 6 c.in_ok-body.body.next ≡ good c.from-2.result c.in_ok-n.n.next
count c = rw c.from-2.ensures (sym c.in_ok-n.ensures)

pub many_disjuncts-requires-clause-n_bound : goal.many_disjuncts-requires-clause-n_bound
many_disjuncts-requires-clause-n_bound c =
    let p = goal.at.many_disjuncts-requires-clause-n_bound c in
    ((byte_good _ _ _ _ _ _ _ (count p.After-from-2)).most, head_zeros _ c.requires.row_value c.atoms.new.row _ (left_length p.After-atoms))

pub returns-in_err-head : goal.returns-in_err-head
unfolding rule
returns-in_err-head c =
    let p = goal.at.returns-in_err-head c in
    let b = body p.In_ok-body in
    rw (handed_on c.from_residual-in_err-head.ensures.1)
    (continues _ _ _ _ _ _ _ _ b.parse
    (continues _ _ _ _ _ _ _ _ (count p.After-from-2) (refuses _ _ _ _ _ _ (step_bad _ _ _ _ (c.in_err-head.ensures b.result (sym b.kept)).answer))))

head : (c : In_ok-head)
    → Parses (λ ds. fault (of (body (goal.at.In_ok-head c).In_ok-body).result ds)) (many c.from-2.result (atoms c.args.bytes.now (signed c.args.version c.args.arities.now)) c.in_ok-n.n.next) c.in_ok-head.head.value c.in_ok-head.head.next
head c = let b = body (goal.at.In_ok-head c).In_ok-body in step_good _ _ _ _ (c.in_ok-head.ensures b.result (sym b.kept)).answer

stored : (c : In_ok-head)
    → headed c.args.row.now c.atoms.new.row c.from.result c.many_disjuncts.new.rows ≡ rule_row (of (body (goal.at.In_ok-head c).In_ok-body).result (head c).result)
stored c =
    let p = goal.at.In_ok-head c in
    let b = body p.In_ok-body in
    headed_rule c.args.row.now c.requires.row_value c.atoms.new.row _ (left_length p.After-atoms) b.result (head c).result _ (c.in_ok-body.ensures.stored _ _ b.parse)
    ((c.in_ok-head.ensures b.result (sym b.kept)).stored _ _ (head c).parse)
    (many_length _ _ _ _ _ (head c).parse ∙ c.from-2.ensures ∙ sym c.from.ensures)

pub returns-in-Some : goal.returns-in-Some
returns-in-Some c =
    let p = goal.at.returns-in-Some c in
    let h = head p.In_ok-head in
    rule_bad _ _ _ _ _ _ _ _ _ _ (body p.In_ok-body).parse (count p.After-from-2) h.parse _ (h.kept ∙ c.in-Some.is)

pub returns-in-None : goal.returns-in-None
returns-in-None c =
    let p = goal.at.returns-in-None c in
    let h = head p.In_ok-head in
    rule_good _ _ _ _ _ _ _ _ _ _ (body p.In_ok-body).parse (count p.After-from-2) h.parse (h.kept ∙ c.in-None.is) (stored p.In_ok-head)
