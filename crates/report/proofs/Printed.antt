-- What `write_text` writes after a check, with the arities out of a form, is the text that the model gives, and 76,863 bytes have room for it.
-- Assumes nothing.
use mathlib.Core.Path.{◌≡◌, refl, sym, ap, ◌∙◌}
use mathlib.Core.List.{List}
use Prim.Native.Nat.{ℕ, ◌≤◌}
use native.Mathlib.Omega.{arith}
use lib.ListN.{length, get_or}
use Rattle.model.specs.Stages.{refused}
use Rattle.model.specs.Tables.{Checked, checked}
use Rattle.model.specs.Text.{text, declared, text_of}
use Rattle.laws_tables.proofs.Courses.{Course, short, shallow, faulty, judged, course}
use Rattle.laws_tables.proofs.Printed.{length_text_of, declared_good}
use Rattle.text.specs.Writing.{Room}
use Rattle.report.specs.Printing.{text_room}
use Rattle.report.proofs.Arities.{Declares, same_text}

-- the text of a refusal shows no arity
refused_text : (as' bs : List ℕ) (c : Checked) (n p : ℕ) → c.verdict ≡ refused n p → text as' c.verdict c.terms c.facts ≡ text bs c.verdict c.terms c.facts
unfolding text
refused_text as' bs c n p e = rw e refl

pub checked_text : (depth : ℕ) (bytes terms₀ facts₀ as' : List ℕ) → Declares bytes as'
    → text as' (checked depth bytes terms₀ facts₀).verdict (checked depth bytes terms₀ facts₀).terms (checked depth bytes terms₀ facts₀).facts ≡ text_of bytes (checked depth bytes terms₀ facts₀)
unfolding text_of
checked_text depth bytes terms₀ facts₀ as' d = go (course depth bytes terms₀ facts₀)
  where
    c : Checked
    c = checked depth bytes terms₀ facts₀

    go : Course depth bytes terms₀ facts₀ → text as' c.verdict c.terms c.facts ≡ text (declared bytes) c.verdict c.terms c.facts
    go (short h e) = refused_text as' (declared bytes) c 1 0 (ap (λ (x : Checked). x.verdict) e)
    go (shallow h a e) = refused_text as' (declared bytes) c 18 0 (ap (λ (x : Checked). x.verdict) e)
    go (faulty n p i j h a r e) = refused_text as' (declared bytes) c n p (ap (λ (x : Checked). x.verdict) e)
    go (judged b i h a r e) =
        same_text as' (declared bytes) (λ p. d.same b i r p ∙ ap (λ (xs : List ℕ). get_or xs p 0) (sym (declared_good bytes b i r))) c.terms c.facts c.verdict

pub checked_room : (depth : ℕ) (bytes terms₀ facts₀ as' out : List ℕ) → Declares bytes as' → text_room ≤ length out
    → Room (text as' (checked depth bytes terms₀ facts₀).verdict (checked depth bytes terms₀ facts₀).terms (checked depth bytes terms₀ facts₀).facts) 0 out
checked_room depth bytes terms₀ facts₀ as' out d l =
    let e = ap length (checked_text depth bytes terms₀ facts₀ as' d) in
    let k = length_text_of depth bytes terms₀ facts₀ in
    omega arith
