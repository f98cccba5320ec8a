-- Which verdict of the model each case of the answer is. Assumes nothing.
use Rattle.model.specs.Stages as stages
use Rattle.refusal.specs.Numbers.{number_of}
use Rattle.refusal.specs.declared.Refused as refusal
use Rattle.judging.specs.declared.verdict.Verdict.{Verdict}
use Rattle.judging.specs.declared.verdict.Verdict.TheVariants.{Accepted, Cyclic, Refused}

abbrev pub meant : Verdict → stages.Verdict
meant (Accepted n f t) = stages.accepted n f t
meant (Cyclic n f t) = stages.cyclic_at n f t
meant (Refused n p) = stages.refused n p

-- the verdict that tells a refusal: its number and its place
abbrev pub refused_by : refusal.Refused → Verdict
refused_by r = Refused (number_of r.refusal) r.place
