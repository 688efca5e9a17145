-- What calls one after another keep of a store.
use Rattle.std.proofs.Common.{◌≡◌, ℕ, refl}
use Rattle.lp_store.specs.declared.cell.CellId.{CellId}
use Rattle.lp_store.specs.Contents.{Contents}
use Rattle.lp_store.specs.Change.{Extends, KeepsMarks, changed}
use Rattle.lp_susp.specs.Kept.{Reduced}
use Rattle.lp_susp.proofs.Chains.{marks_on}
use Rattle.lp_susp.proofs.Keeping.{grows_same, grows_on, grows_of, grows_changed, avoids_on}
use Rattle.lp_unify.specs.Frames.{Goes, Stays}

pub goes_same : (s : Contents) → Goes s s
goes_same s = record { grows = grows_same s; marks = λ m k. (k, refl) }

pub goes_then : (a b c : Contents) → Goes a b → Goes b c → Goes a c
goes_then a b c p q = record { grows = grows_on a b c p.grows q.grows; marks = marks_on a b c p.marks q.marks }

pub stays_same : (s : Contents) → Stays s s
stays_same s = record { grows = grows_same s; marks = λ m k. (k, refl); avoids = λ c i h k n. n }

pub stays_then : (a b c : Contents) → Stays a b → Stays b c → Stays a c
stays_then a b c p q = record { grows = grows_on a b c p.grows q.grows; marks = marks_on a b c p.marks q.marks; avoids = avoids_on a b c p.grows p.avoids q.avoids }

pub goes_of : (a b : Contents) → Stays a b → Goes a b
goes_of a b p = record { grows = p.grows; marks = p.marks }

pub goes_first : (a b c : Contents) → Stays a b → Goes b c → Goes a c
goes_first a b c p q = goes_then a b c (goes_of a b p) q

pub goes_last : (a b c : Contents) → Goes a b → Stays b c → Goes a c
goes_last a b c p q = goes_then a b c p (goes_of b c q)

pub stays_extends : (s z : Contents) → Extends s z → KeepsMarks s z → Stays s z
stays_extends s z e k = record { grows = grows_of s z e; marks = k; avoids = λ c i hc hi n l. n (e.leads i c hi l) }

pub stays_reduced : (s z : Contents) → Reduced s z → KeepsMarks s z → Stays s z
stays_reduced s z e k = record { grows = e.grows; marks = k; avoids = e.avoids }

pub goes_changed : (s z : Contents) (a : ℕ) (to : CellId) → z ≡ changed s a to → KeepsMarks s z → Goes s z
goes_changed s z a to e k = record { grows = grows_changed s z a to e; marks = k }
