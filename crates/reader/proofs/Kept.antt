-- The set of variables that is kept while atoms are read: a variable more, an atom more (document 02, C-13). Assumes nothing.
use mathlib.Core.Path.{◌≡◌, refl, sym, ap, ◌∙◌}
use mathlib.Core.List.{List, [], ◌∷◌, ◌++◌}
use Prim.Native.Nat.{ℕ, ◌*◌, ◌^◌, ◌%◌, ◌≤◌}
use lib.Bits.{bit_or, or_zero_r}
use Rattle.model.specs.Rules.{Atom}
use Rattle.form_variables.specs.Sets.{set_of}
use Rattle.form_variables.proofs.Sets.{or_assoc, set_of_more}
use Rattle.parsing.proofs.Heads.{atoms_set_more}
use Rattle.reader.specs.Parts.{grown_by, grown_by_atom, Afresh}

-- grown by nothing
pub grown_none : (set : ℕ) → grown_by set [] ≡ set
unfolding set_of
grown_none set = or_zero_r set

-- by one variable more
pub grown_more : (before : ℕ) (vs : List ℕ) (s v : ℕ) → v ≤ 7 → grown_by before vs ≡ s → grown_by before (vs ++ (v ∷ [])) ≡ bit_or s (1 * 2 ^ v % 256)
grown_more before vs s v h e =
    ap (bit_or before) (set_of_more vs (set_of vs) v h refl) ∙ sym (or_assoc before (set_of vs) (1 * 2 ^ v % 256)) ∙ ap (λ (x : ℕ). bit_or x (1 * 2 ^ v % 256)) e

-- after each atom the set that is kept is the one collected afresh
pub kept_afresh : (set grown : ℕ) (a : Atom) → grown_by_atom set a ≡ grown → (done : List Atom) → Afresh done set → Afresh (done ++ (a ∷ [])) grown
kept_afresh set grown a e done h = atoms_set_more set (set_of a.variables) a refl done h ∙ e
