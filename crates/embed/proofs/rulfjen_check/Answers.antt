-- `embed::rulfjen_check` meets its contract: what `check` answers and leaves, by the numbers of its verdict. Assumes nothing.
use mathlib.Core.Path.{ap, ◌∙◌}
use Rattle.judging.specs.Verdict.{meant}
use Rattle.embed.specs.Numbers.{of_checked}
use Rattle.embed.proofs.Numbers.{check_left}
use Rattle.embed.proofs.rulfjen_check.Goals as goal

pub returns : goal.returns
returns c =
    let x = c.check in
    ap of_checked x.ensures ∙ check_left (meant x.result) c.judgement.ensures
