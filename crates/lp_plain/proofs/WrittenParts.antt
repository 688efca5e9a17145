-- A flattened goal that is taken apart stays written.
use Rattle.std.proofs.Common.{◌≡◌, ap, sym, ℕ, Bool, true, false, [], ◌∷◌, Option, subst}
use Rattle.lp_term.specs.Nodes.{Nodes}
use Rattle.lp_model.specs.declared.connective.Connective.{Connective}
use Rattle.lp_plain.specs.declared.frame.Place.{Place}
use Rattle.lp_plain.specs.declared.machine.Machine.{Machine}
use Rattle.lp_plain.specs.declared.table.Flat.{Flat}
use Rattle.lp_plain.specs.declared.table.Span.{Span}
use Rattle.std.specs.Prelude.{List}
use Rattle.lp_plain.specs.Apart.{apart}
use Rattle.lp_plain.specs.Assuming.{KeepsAssumed}
use Rattle.lp_plain.specs.Entries.{KeepsGoals}
use Rattle.lp_plain.specs.Scopes.{Blocks, blocks_of}
use Rattle.lp_plain.specs.Tables.{shown}
use Rattle.lp_plain.specs.WrittenSearch.{IsShutIn, IsWrittenSearch, StaysWritten, WritesAssumed, WritesBoth, WritesFlat, WritesList, WritesWhere}
use Rattle.lp_plain.specs.WrittenTable.{IsWrittenIn, WrittenFlat, WrittenList, WrittenRules}
use Rattle.lp_plain.proofs.Growing.{grows_kept}
use Rattle.lp_plain.proofs.TableWritten.{all_of, assumed_of, sides_of, some_of}
use Rattle.lp_plain.proofs.WrittenSearches.{search_same}

pub in_by : (b : Nodes) (s : Blocks) (o : Option ℕ) (Is Now : ℕ → List Bool → Type 0) → ((k : ℕ) (bs : List Bool) → Is k bs → Now k bs) → IsWrittenIn b s o Is → IsWrittenIn b s o Now
in_by b s o Is Now f w = record { type_vars = w.type_vars; binders = w.binders; values = w.values; scope_holds = w.scope_holds; have = w.have; is = f w.type_vars w.binders w.is }

-- a goal more is counted
apart_stays : (m n : Machine) (p : Place) (Is : (ar : ℕ → ℕ) → ℕ → List Bool → Type 0) → StaysWritten (apart m) n p Is → StaysWritten m n p Is
apart_stays m n p Is f ar i w s = f ar (record { table = i.table; values = i.values; frames = i.frames }) w (record { at_work = s.at_work; alternatives = s.alternatives; older = s.older })

pub either_writes : (m c n : Machine) (p : Place) (f : Flat) (l r : ℕ) → c ≡ apart m → f ≡ Flat.Either l r → WritesBoth c n p l r → WritesFlat m n p f
either_writes m c n p f l r e q g ar i w s =
    apart_stays m n p (λ ar k bs. WrittenList m.bank (shown m.table) ar k bs l × WrittenList m.bank (shown m.table) ar k bs r) (subst (λ z. WritesBoth z n p l r) e g) ar i
    (in_by m.bank (blocks_of m.scopes) p.values.scope (λ k bs. WrittenFlat m.bank (shown m.table) ar k bs f)
    (λ k bs. WrittenList m.bank (shown m.table) ar k bs l × WrittenList m.bank (shown m.table) ar k bs r)
    (λ k bs h. sides_of m.bank (shown m.table) ar k h l r q) w) s

pub some_writes : (m c n : Machine) (p : Place) (f : Flat) (l : ℕ) → c ≡ apart m → f ≡ Flat.Some l → WritesList c n p (false ∷ []) l → WritesFlat m n p f
some_writes m c n p f l e q g ar i w s =
    apart_stays m n p (λ ar k bs. WrittenList m.bank (shown m.table) ar k (false ∷ bs) l) (subst (λ z. WritesList z n p (false ∷ []) l) e g) ar i
    (in_by m.bank (blocks_of m.scopes) p.values.scope (λ k bs. WrittenFlat m.bank (shown m.table) ar k bs f) (λ k bs. WrittenList m.bank (shown m.table) ar k (false ∷ bs) l)
    (λ k bs h. some_of m.bank (shown m.table) ar k h l q) w) s

pub all_writes : (m c n : Machine) (p : Place) (f : Flat) (l : ℕ) → c ≡ apart m → f ≡ Flat.All l → WritesList c n p (true ∷ []) l → WritesFlat m n p f
all_writes m c n p f l e q g ar i w s =
    apart_stays m n p (λ ar k bs. WrittenList m.bank (shown m.table) ar k (true ∷ bs) l) (subst (λ z. WritesList z n p (true ∷ []) l) e g) ar i
    (in_by m.bank (blocks_of m.scopes) p.values.scope (λ k bs. WrittenFlat m.bank (shown m.table) ar k bs f) (λ k bs. WrittenList m.bank (shown m.table) ar k (true ∷ bs) l)
    (λ k bs h. all_of m.bank (shown m.table) ar k h l q) w) s

pub assume_writes : (m c n : Machine) (p : Place) (f : Flat) (x : Span) (l v : ℕ) → c ≡ apart m → f ≡ Flat.Assume x l v → WritesAssumed c n p x l → WritesFlat m n p f
assume_writes m c n p f x l v e q g ar i w s =
    apart_stays m n p (λ ar k bs. WrittenRules m.bank (shown m.table) ar k bs x.from x.to × WrittenList m.bank (shown m.table) ar k bs l) (subst (λ z. WritesAssumed z n p x l) e g) ar i
    (in_by m.bank (blocks_of m.scopes) p.values.scope (λ k bs. WrittenFlat m.bank (shown m.table) ar k bs f)
    (λ k bs. WrittenRules m.bank (shown m.table) ar k bs x.from x.to × WrittenList m.bank (shown m.table) ar k bs l)
    (λ k bs h. assumed_of m.bank (shown m.table) ar k h x l v q) w) s

-- a connective of terms
pub connective_writes : (m c n : Machine) (k x : Connective) → c ≡ apart m → k ≡ x → WritesWhere c n (IsShutIn c.bank x) → WritesWhere m n (IsShutIn m.bank k)
connective_writes m c n k x e q g ar i h s =
    subst (λ z. WritesWhere z n (IsShutIn z.bank x)) e g ar (record { table = i.table; values = i.values; frames = i.frames }) (subst (IsShutIn m.bank) q h)
    (record { at_work = s.at_work; alternatives = s.alternatives; older = s.older })

pub behind_writes : (m c n : Machine) {Is : Type 0} → c ≡ apart m → KeepsGoals c n → n.frames ≡ c.frames → KeepsAssumed c n → n.choices ≡ c.choices → WritesWhere m n Is
behind_writes m c n e k f a h ar i x s =
    subst (λ z. KeepsGoals z n → n.frames ≡ z.frames → KeepsAssumed z n → n.choices ≡ z.choices → IsWrittenSearch n ar) (sym e) (λ k f a h.
    search_same (apart m) n (record { table = i.table; values = i.values; frames = i.frames }) (grows_kept (apart m) n k) f a (ap (λ v. v.items) h) ar
    (record { at_work = s.at_work; alternatives = s.alternatives; older = s.older })) k f a h
