-- The number of each refusal (document 01, "Turned back"; document 02, C-14 and C-23). Assumes nothing.
use Rattle.std.specs.Prelude.{ℕ, ◌≡◌}
use Rattle.refusal.specs.declared.Refusal.{Refusal}
use Rattle.refusal.specs.declared.Refusal.TheVariants.{ShortList, Length, Version, Predicates, Rules, Count, Symbol, Repeated, Detached, End, Places, TestFacts, StageFacts, StageTerms, Depth, Store, Other}

abbrev pub number_of : Refusal → ℕ
number_of ShortList = 1
number_of Length = 2
number_of Version = 3
number_of Predicates = 4
number_of Rules = 5
number_of Count = 6
number_of Symbol = 7
number_of Repeated = 8
number_of Detached = 9
number_of End = 10
number_of Places = 11
number_of TestFacts = 12
number_of StageFacts = 13
number_of StageTerms = 14
number_of Depth = 18
number_of Store = 26
number_of (Other spare) = spare.number

-- the refusal of a number: it has that number, and no other one has it
abbrev pub Only : ℕ → Refusal → Type 0
Only n r = (number_of r ≡ n) × ((q : Refusal) → number_of q ≡ n → q ≡ r)
