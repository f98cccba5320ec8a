-- `writer::put_atom` meets its contract: the predicate, and then as many variables as its arity says. Assumes nothing.
use mathlib.Core.Path.{◌≡◌, ap, ◌∙◌}
use mathlib.Core.List.{List}
use Prim.Native.Nat.{ℕ, ◌≤◌, ◌+◌, ◌-◌}
use native.Mathlib.Omega.{arith}
use lib.ListN.{get_or}
use Rattle.std.proofs.lemmas.Result.{IfOk-weaker}
use Rattle.model.specs.Form.{arities_place}
use Rattle.laws.proofs.Places.{get_or_numbers_from, length_numbers_from}
use Rattle.laws.proofs.WellFormed.{most_few}
use Rattle.parsing.proofs.Parsing.{handed_on}
use Rattle.writer.specs.Writes.{Declared}
use Rattle.writer.proofs.AtomWriting.{atom_refused, atom_written}
use Rattle.writer.proofs.put_atom.Goals as goal

some : {form : List ℕ} {version n : ℕ} → Declared form version n → 1 ≤ n
some {form} {version} {n} h = let some = h.arities.some in let e = length_numbers_from form arities_place n in omega arith

few : {form : List ℕ} {version n : ℕ} → Declared form version n → n ≤ 1024
few {form} {version} {n} h = omega (arith, h.few, most_few version)

-- the arity that is read is that of the predicate, and at most 4

size_is : (form : List ℕ) {p p' place arity size : ℕ} → size ≡ arity → arity ≡ get_or form place 0 → place ≡ arities_place + p' → p' ≡ p → size ≡ get_or form (arities_place + p) 0
size_is form e f g h = e ∙ f ∙ ap (λ (x : ℕ). get_or form x 0) g ∙ ap (λ (x : ℕ). get_or form (arities_place + x) 0) h

arity_small : {form : List ℕ} {version n p size : ℕ} → Declared form version n → p ≤ n - 1 → size ≡ get_or form (arities_place + p) 0 → size ≤ 4
arity_small {form} {version} {n} {p} h l e =
    let one = some h in
    let at = get_or_numbers_from form arities_place n p (omega arith) in
    let m = h.arities.small p in
    omega arith

pub overflow_sub-n : goal.overflow_sub-n
overflow_sub-n c = some c.requires.declared

pub overflow_cast-n : goal.overflow_cast-n
overflow_cast-n c = omega (arith, few c.requires.declared)

pub returns-in_err-head-clause-written : goal.returns-in_err-head-clause-written
returns-in_err-head-clause-written c = rw (handed_on c.from_residual.ensures.1) (atom_refused _ _ _ _ _ _ _ _ c.number-p.ensures _ _ c.in_err-head.ensures.written)

pub arity_place-requires : goal.arity_place-requires
arity_place-requires c =
    let d = c.requires.declared in
    let p = c.in_ok-head.ensures.taken in
    let e = c.from.ensures in
    omega (arith, some d, few d)

pub put_variables-requires : goal.put_variables-requires
put_variables-requires c =
    let p = c.in_ok-head.ensures.taken in
    let n : c.from-2.result ≤ 4 = omega (arith, arity_small c.requires.declared p.1 (size_is c.args.form.now c.from-2.ensures c.number-arity.ensures c.arity_place.ensures c.from.ensures)) in
    let l = c.put_number.auto.out in
    let h = c.requires.fits in
    record { within = omega arith; room = omega arith }

pub returns-clause-written : goal.returns-clause-written
returns-clause-written c =
    let d = c.requires.declared in
    let p = c.in_ok-head.ensures in
    let size = size_is c.args.form.now c.from-2.ensures c.number-arity.ensures c.arity_place.ensures c.from.ensures in
    atom_written _ _ _ _ _ _ _ _ c.number-p.ensures _ _ _ _ p.written (let m = p.taken.1 in let n = some d in omega arith) size c.put_variables.ensures.written

pub returns-clause-end : goal.returns-clause-end
returns-clause-end c =
    let p = c.in_ok-head.ensures.taken in
    let n : c.from-2.result ≤ 4 = omega (arith, arity_small c.requires.declared p.1 (size_is c.args.form.now c.from-2.ensures c.number-arity.ensures c.arity_place.ensures c.from.ensures)) in
    IfOk-weaker c.put_variables.result _ _ (λ x e. omega arith) c.put_variables.ensures.end
