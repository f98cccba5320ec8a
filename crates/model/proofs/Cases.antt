-- The [P] table, the table of misreadings, the order of records, both versions, other depths, rule constants and the forms of River,
-- each computed from the definitions that the promises use. Assumes nothing.
use mathlib.Core.Path.{◌≡◌, refl}
use mathlib.Core.List.{List, [], ◌∷◌, ◌++◌, map}
use mathlib.Core.Bool.{Bool}
use Prim.Native.Nat.{ℕ, suc}
use native.Mathlib.Decide.{ℕ_discrete}
use lib.Dec.{ltb}
use lib.ListN.{replicate}
use Rattle.model.specs.Lists
use Rattle.model.specs.Term
use Rattle.model.specs.Rules
use Rattle.model.specs.Format
use Rattle.model.specs.Form
use Rattle.model.specs.Form.{done, reading, writing, counted}
use Rattle.model.specs.Triggers
use Rattle.model.specs.Blocking
use Rattle.model.specs.Stages
use Rattle.model.specs.Tables
use Rattle.model.specs.Tables.{Checked, checked}
use Rattle.model.specs.Text
use Rattle.model.specs.Text.{printed}
use Rattle.model.specs.Cases.{Case, terms₀, facts₀, expected, expected_tables, cases, river_bytes, river_form, river_text, misreadings, ordered, versions, AtDepth, deeper, Named, named}

-- `checked`, with every definition that it rests on open
run : ℕ → List ℕ → Checked
unfolding ℕ_discrete Lists.all Lists.any Lists.keep Lists.extend Lists.index Lists.collect Lists.member Lists.padded Lists.row Term.same Term.list Term.terms Term.size Term.functions Term.meeting Term.nesting Term.cyclic Rules.wide Rules.most_predicates Rules.variables_of Rules.in_body Rules.universal Rules.frontier Rules.existential Rules.existential_free Rules.datalog Rules.blockable Rules.repeated Rules.detached Rules.disjuncts_from Rules.count_skolem Rules.entries_from Rules.entries Rules.owns Format.and_then Format.byte Format.number Format.many Format.variable Format.atom Format.atoms Format.sound Format.rule Format.stated Format.whole Format.rule_set Format.read Triggers.same_all Triggers.same_fact Triggers.present Triggers.terms_of Triggers.assign Triggers.valued Triggers.instantiate Triggers.assignments Triggers.holds Triggers.triggers Triggers.head_term Triggers.head_facts Triggers.output Blocking.rename Blocking.renamed Blocking.template Blocking.origin Blocking.made Blocking.datalog_output Blocking.saturate Blocking.test_base Blocking.test_set Blocking.blocked Stages.fixed_from Stages.leaves Stages.tuples Stages.critical Stages.triggers_in Stages.contribution Stages.outputs Stages.grown Stages.stage Stages.cyclic_terms Stages.size_of Stages.too_large Stages.too_many Stages.judge Stages.verdict Tables.number Tables.term_row Tables.fact_row Tables.fronted Tables.recorded Tables.left Tables.is_depth Tables.checked
run d bytes = checked d bytes terms₀ facts₀

-- Rows 2 to 10, River and Lake: verdict, stage, counts, place and both tables; and the text of River.
pub p_table :
    (map (λ (c : Case). checked 1 c.bytes terms₀ facts₀) cases ≡ map expected cases) × (printed river_bytes ≡ river_text)
unfolding run cases expected expected_tables river_bytes river_text Text.digits Text.decimal Text.line Text.term_numbers Text.fact_numbers Text.lines Text.records Text.text Text.declared Text.text_of Text.printed
p_table = (refl, refl)

-- The books that tell the misreadings apart: verdict, stage, counts and both tables.
pub not_misread : map (λ (c : Case). checked 1 c.bytes terms₀ facts₀) misreadings ≡ map expected misreadings
unfolding run misreadings expected expected_tables
not_misread = refl

-- The order of records: each fact and each term in its place.
pub in_order : map (λ (c : Case). checked 1 c.bytes terms₀ facts₀) ordered ≡ map expected ordered
unfolding run ordered expected expected_tables
in_order = refl

-- Both versions: verdict, stage, counts and both tables.
pub of_versions : map (λ (c : Case). checked 1 c.bytes terms₀ facts₀) versions ≡ map expected versions
unfolding run versions expected expected_tables
of_versions = refl

-- Other depths: verdict, stage, counts and both tables.
pub at_depths : map (λ (c : AtDepth). checked c.depth c.case.bytes terms₀ facts₀) deeper ≡ map (λ (c : AtDepth). expected c.case) deeper
unfolding run deeper expected expected_tables
at_depths = refl

-- Rule constants: verdict, stage, counts and both tables.
pub with_constants :
    map (λ (c : Named). Tables.left 1 c.book (Stages.verdict 1 c.book) terms₀ facts₀) named ≡ map (λ (c : Named). expected_tables c.verdict c.tables) named
unfolding run named expected_tables
with_constants = refl

-- which of the numbers from place p on are counted
pub counted_from : List ℕ → ℕ → List ℕ → List Bool
counted_from form p [] = []
counted_from form p (x ∷ xs) = counted form p ∷ counted_from form (suc p) xs

-- In a form of River with 9 in every place that is not counted, all others are.
pub river_counted : counted_from (river_form 9) 0 (river_form 9) ≡ map (λ (x : ℕ). ltb x 9) (river_form 9)
unfolding river_form counted_from Form.counted_in_atom Form.counted_in_group Form.counted_in_rule Form.counted
river_counted = refl

-- River is written from a form with 9 in every place that is not counted, and read into one with 0 there.
pub river_written_and_read :
    (writing (river_form 9) (replicate 38 9) ≡ record { answer = done 37; bytes = river_bytes ++ (9 ∷ []) })
    × (reading river_bytes (replicate 7813 9) ≡ record { answer = done 37; form = river_form 0 ++ (9 ∷ []) })
unfolding river_form river_bytes Lists.all Lists.any Lists.keep Lists.collect Lists.member Lists.padded Lists.numbers_from Rules.wide Rules.most_predicates Rules.variables_of Rules.in_body Rules.existential Rules.repeated Rules.detached Format.and_then Format.byte Format.number Format.many Format.variable Format.atom Format.atoms Format.sound Format.rule Format.stated Format.whole Format.rule_set Format.read Format.number_bytes Format.atom_bytes Format.atoms_bytes Format.rule_bytes Format.content Format.big_endian Format.bytes_of Form.atom_row Form.group Form.rule_row Form.encoded Form.spaced Form.atom_at Form.group_at Form.rule_at Form.decoded Form.reading Form.writing
river_written_and_read = (refl, refl)
