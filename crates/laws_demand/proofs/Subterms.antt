-- The subterms of a set of facts. Assumes nothing.
use mathlib.Core.List.{List, Memᴰ}
use Prim.Native.Nat.{ℕ}
use Rattle.model.specs.Lists.{collect}
use Rattle.model.specs.Term.{Term, Terms, skolem, list}
use Rattle.model.specs.Triggers.{Fact, terms_of}
use Rattle.laws.proofs.Lists.{mem_collect, collect_mem}
use Rattle.laws_published.proofs.Subterms.{subterms, subterms_self, all_closed}

pub subterms_of : List Fact → List Term
subterms_of fs = collect subterms (terms_of fs)

pub mem_subterms_of : {t u : Term} (fs : List Fact) → Memᴰ u (terms_of fs) → Memᴰ t (subterms u) → Memᴰ t (subterms_of fs)
unfolding subterms_of
mem_subterms_of fs m k = mem_collect subterms m k

pub subterms_of_mem : {t : Term} (fs : List Fact) → Memᴰ t (subterms_of fs) → (u : Term) × Memᴰ u (terms_of fs) × Memᴰ t (subterms u)
unfolding subterms_of
subterms_of_mem fs m = collect_mem subterms (terms_of fs) m

pub terms_of_subterms_of : {t : Term} (fs : List Fact) → Memᴰ t (terms_of fs) → Memᴰ t (subterms_of fs)
terms_of_subterms_of {t} fs m = mem_subterms_of fs m (subterms_self t)

pub subterms_of_argument : {f : ℕ} {ts : Terms} {s : Term} (fs : List Fact) → Memᴰ (skolem f ts) (subterms_of fs) → Memᴰ s (list ts)
    → Memᴰ s (subterms_of fs)
unfolding subterms_of
subterms_of_argument fs m k = all_closed (terms_of fs) m k
