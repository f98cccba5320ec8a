-- The converters on River and on faulty bytes, computed from the definitions that the promises use. Assumes nothing.
use mathlib.Core.Path.{◌≡◌, refl}
use mathlib.Core.List.{List, [], ◌++◌, map}
use Prim.Native.Nat.{ℕ}
use lib.ListN.{replicate}
use Rattle.model.specs.Lists
use Rattle.model.specs.Rules
use Rattle.model.specs.Format
use Rattle.model.specs.Form.{done, refusal, Writing}
use Rattle.converter_model.specs.Converter
use Rattle.converter_model.specs.Converter.{upgrading, downgrading}
use Rattle.converter_model.specs.Cases.{river, river_wide, Fault, not_upgraded, not_downgraded}

-- outputs with room for the longest rule set, with one byte more, and with one too few, all marked
abbrev room : List ℕ
room = replicate 9096 9

abbrev long : List ℕ
long = replicate 9097 9

abbrev short : List ℕ
short = replicate 9095 9

abbrev refused : Fault → Writing
refused f = record { answer = refusal f.number f.place; bytes = room }

-- `upgrading` and `downgrading`, with every definition that they rest on open
run : List ℕ → List ℕ → Writing
unfolding Lists.any Lists.keep Lists.collect Lists.member Rules.wide Rules.most_predicates Rules.variables_of Rules.in_body Rules.existential Rules.repeated Rules.detached Format.and_then Format.byte Format.number Format.many Format.variable Format.atom Format.atoms Format.sound Format.rule Format.stated Format.whole Format.rule_set Format.number_bytes Format.atom_bytes Format.atoms_bytes Format.rule_bytes Format.content Format.big_endian Format.bytes_of Converter.opening Converter.convertible Converter.converting
run bytes out = upgrading bytes out

pub river_converted :
    (upgrading river long ≡ record { answer = done 45; bytes = river_wide ++ replicate 9052 9 })
    × (downgrading river_wide long ≡ record { answer = done 37; bytes = river ++ replicate 9060 9 })
unfolding run river river_wide
river_converted = (refl, refl)

-- refusal 1 comes before all others
pub no_room :
    (upgrading river short ≡ record { answer = refusal 1 0; bytes = short })
    × (downgrading [] short ≡ record { answer = refusal 1 0; bytes = short })
unfolding run
no_room = (refl, refl)

pub faults_refused :
    (map (λ (f : Fault). upgrading f.bytes room) not_upgraded ≡ map refused not_upgraded)
    × (map (λ (f : Fault). downgrading f.bytes room) not_downgraded ≡ map refused not_downgraded)
unfolding run river river_wide not_upgraded not_downgraded
faults_refused = (refl, refl)
