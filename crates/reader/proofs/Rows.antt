-- The rows that the parsers of an atom, of atoms and of a rule fill. Assumes nothing.
use mathlib.Core.Path.{◌≡◌, refl, sym, ap, ◌∙◌}
use mathlib.Core.List.{List, ◌∷◌, ◌++◌}
use Prim.Native.Nat.{ℕ, suc, ◌-◌}
use lib.ListN.{length, get_or, take, drop, set}
use Rattle.std.specs.declared.result.Result.{Result}
use Rattle.refusal.specs.declared.Refused.{Refused}
use Rattle.model.specs.Lists.{padded, collect}
use Rattle.model.specs.Rules.{wide}
use Rattle.model.specs.Format.{Parsed, good, many, byte, number, Signature, variable, atom, atoms}
use Rattle.model.specs.Form.{atom_row, group}
use Rattle.parsing.specs.Step.{zeros, Filled, atoms_set}
use Rattle.parsing.specs.declared.Parsed.{Parsed as Read}
use Rattle.parsing.proofs.Lists.{tail_length, headed_filled}
use Rattle.parsing.proofs.Parsing.{continues, maps, refill}
use Rattle.parsing.proofs.Many.{many_length}
use Rattle.reader.specs.Parts.{grown_by, grown_by_atom}

pub atom_filled : (bs : List ℕ) (s : Signature) (i p j before : ℕ) (row left : List ℕ) (r : Result (Read ℕ) Refused)
    → number (wide s.version) bs 0 (length s.arities - 1) 7 i ≡ good p j → row ≡ zeros 5
    → Filled (grown_by before) (padded (length (take (length (set row 0 p) - 1) (drop 1 (set row 0 p))))) (many (get_or s.arities p 0) (variable bs) j) r left
    → Filled (grown_by_atom before) atom_row (atom bs s i) r (take 1 (set row 0 p) ++ (left ++ drop (length (set row 0 p) - 1) (drop 1 (set row 0 p))))
unfolding atom atom_row
atom_filled bs s i p j before row left r e z h =
    continues _ _ _ _ _ _ p j e
    (maps (λ (vs : List ℕ). record { predicate = p; variables = vs }) (grown_by before) (grown_by_atom before) _ atom_row _ r left _ (λ vs. refl)
    (λ vs f. headed_filled 4 row p z vs left (f ∙ ap (λ (m : ℕ). padded m vs) (tail_length 4 row p z)))
    h)

-- a count, and so many values in the places after it
pub counted_filled : {A V : Type 0} (keep : List A → V) (row : A → List ℕ) (p : ℕ → Parsed A) (m n j : ℕ) (place left : List ℕ) (r : Result (Read V) Refused) → place ≡ zeros (suc m)
    → Filled keep (λ as'. padded m (collect row as')) (many n p j) r left
    → Filled keep (λ as'. padded (suc m) (length as' ∷ collect row as')) (many n p j) r (take 1 (set place 0 n) ++ (left ++ drop (length (set place 0 n) - 1) (drop 1 (set place 0 n))))
counted_filled {A} keep row p m n j place left r z h =
    refill _ _ _ _ _ left _
    (λ as' k e s. headed_filled m place n z (collect row as') left s ∙ ap (λ (l : ℕ). padded (suc m) (l ∷ collect row as')) (sym (many_length n p j as' k e)))
    h

pub atoms_filled : (bs : List ℕ) (s : Signature) (i n j : ℕ) (place left : List ℕ) (r : Result (Read ℕ) Refused) → byte bs 1 4 6 i ≡ good n j → place ≡ zeros 21
    → Filled atoms_set (λ as'. padded 20 (collect atom_row as')) (many n (atom bs s) j) r left
    → Filled atoms_set group (atoms bs s i) r (take 1 (set place 0 n) ++ (left ++ drop (length (set place 0 n) - 1) (drop 1 (set place 0 n))))
unfolding atoms group
atoms_filled bs s i n j place left r e z h = continues _ _ _ _ _ _ n j e (counted_filled atoms_set atom_row (atom bs s) 20 n j place left r z h)
