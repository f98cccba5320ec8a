-- Demand 3 of the check: where it answers accepted, the facts that its tables spell out bound every filling. Assumes nothing.
use mathlib.Core.Path.{sym, subst}
use mathlib.Core.List.{List}
use Rattle.model.specs.Triggers.{Fact}
use Rattle.model.specs.Demand.{Demand3, Demand3OfCheck}
use Rattle.laws_format.proofs.Bytes.{read_well_formed}
use Rattle.laws_tables.proofs.Checked.{accepted_judged, checked_accepted_spelled}
use Rattle.laws_demand.proofs.Demand3.{demand_3}

pub demand_3_of_check : Demand3OfCheck
demand_3_of_check d bytes terms₀ facts₀ b i n f t e h =
    subst (λ (fs : List Fact). Demand3 d b fs) (sym (checked_accepted_spelled d bytes terms₀ facts₀ b i n f t e h).facts)
    (demand_3 d (read_well_formed bytes b i e) (accepted_judged d bytes terms₀ facts₀ b i n f t e h).verdict)
