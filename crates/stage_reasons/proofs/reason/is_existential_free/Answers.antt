-- `stage_reasons::reason::is_existential_free` meets its contract: a search through the disjuncts. Assumes nothing.
use mathlib.Core.Path.{◌≡◌, refl}
use mathlib.Core.Bool.{true, false}
use mathlib.Core.List.{[]}
use native.Mathlib.Nat.{sub-zero}
use lib.ListN.{get_or}
use borrow.Author.Rules.{rules}
use Rattle.std.proofs.lemmas.Iterator.{cases_from_all, YieldsList-from_range}
use Rattle.model.specs.Rules.{existential_free}
use Rattle.form.specs.Places.{rule_of, disjunct_of}
use Rattle.stage_reasons.proofs.Disjuncts.{all_over, free_told}
use Rattle.stage_reasons.proofs.reason.is_existential_free.Goals as goal

pub disjunct_count-count-requires : goal.disjunct_count-count-requires
disjunct_count-count-requires c = let p = c.requires in (p.held, p.within)

pub returns : goal.returns
unfolding disjunct_of
returns c =
    let r = rule_of c.args.form.now c.args.i in
    let n = c.disjunct_count-count.result in
    let free = existential_free r in
    let cases =
    cases_from_all _ _ _ (λ d. free (get_or r.head d []) ≡ true) (λ d. free (get_or r.head d []) ≡ false) c.all.ensures.ran (YieldsList-from_range 0 n n refl (sub-zero n))
    (λ d f called. search (rules, free_told)) (λ d f called. search (rules, free_told)) in
    all_over free r.head [] c.all.result c.disjunct_count-count.ensures cases
