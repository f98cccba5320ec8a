-- `dmfa::caller_tables::fill` meets its contract. Assumes nothing.
use native.Mathlib.Omega.{arith}
use Rattle.dmfa.proofs.Filling.{front_filled}
use Rattle.dmfa.proofs.caller_tables.fill.Goals as goal

pub returns : goal.returns
returns c =
    let a = c.args in
    front_filled a.records.now a.table.now a.n a.front (omega arith) (omega arith) (omega arith) c.copy_from_slice.new.self c.fill.new.self c.copy_from_slice.ensures.after
    (c.fill.ensures.after (λ y h. h))
