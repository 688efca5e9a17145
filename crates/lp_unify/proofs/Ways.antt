-- Ways from cell to cell: what leads to a variable that is not bound.
use Rattle.std.proofs.Common.{◌≡◌, ℕ, ◌<◌, ◌≤◌, List, [], ◌∷◌, ◌++◌, length, map, reverse, refl, sym, ap, ◌∙◌, subst, inl, inr, false, true≢false, nat_eq}
use Rattle.std.specs.Prelude.{All}
use Rattle.std.proofs.lemmas.List.{reverse-reverse, get_or_past}
use Rattle.std.proofs.lemmas.List.Elements.{All-append, All-head, All-tail, All-weaker}
use Rattle.lp_lemmas.proofs.Elements.{All_front, All_back, All_reverse, All_popped}
use Rattle.lp_lemmas.proofs.Numbers.{nat_eq_self}
use Rattle.lp_store.specs.declared.cell.Cell.{Cell}
use Rattle.lp_store.specs.declared.cell.Cell.TheVariants.{TypeVar, TypeCon, TypeArrow, Ref, Const, App, Logic, Index}
use Rattle.lp_store.specs.declared.cell.CellId.{CellId}
use Rattle.lp_store.specs.declared.cell.Span.{Span}
use Rattle.lp_store.specs.Contents.{Contents, cell_at, span}
use Rattle.lp_store.specs.Reading.{IsAmong, parts, Leads, here, through, Avoids, AvoidsAll}
use Rattle.lp_unify.specs.Inside.{AvoidsIn, IsApart, IsUnbound}

pub not_equal : (a b : ℕ) → nat_eq a b ≡ false → a ≡ b → ⊥
not_equal a b e p = true≢false (sym (nat_eq_self a) ∙ ap (nat_eq a) p ∙ e)

-- a cell whose parts avoid x, and which is not x, avoids it
pub cell_avoids : (s : Contents) (x i : ℕ) (c : Cell) → cell_at s i ≡ c → (i ≡ x → ⊥) → AvoidsAll s x (parts s c) → Avoids s x i
cell_avoids s x i c e n a (here m) = n refl
cell_avoids s x i c e n a (through {j = y} m l) = a y (subst (λ z. IsAmong y (parts s z)) e m) l

pub unbound_apart : (s : Contents) (x i : ℕ) (c : Cell) → cell_at s i ≡ c → IsUnbound (cell_at s x) → ((c ≡ TypeVar) → ⊥) → ((l : ℕ) → c ≡ Logic l → ⊥) → i ≡ x → ⊥
unbound_apart s x i c e (inl p) n m q = n (sym e ∙ ap (cell_at s) q ∙ p)
unbound_apart s x i c e (inr p) n m q = m p.0 (sym e ∙ ap (cell_at s) q ∙ p.1)

ref_leads : (s : Contents) (i c : ℕ) (j : CellId) → cell_at s i ≡ Ref j → IsUnbound (cell_at s c) → Leads s i c → Leads s j.0 c
ref_leads s i c j e u (here m) = absurd (unbound_apart s i i (Ref j) e u (λ p. cc) (λ l p. cc) refl)
ref_leads s i c j e u (through {j = y} m l) = made (subst (λ z. IsAmong y (parts s z)) e m)
  where
    made : IsAmong y (j.0 ∷ []) → Leads s j.0 c
    made (inl q) = subst (λ z. Leads s z c) (sym q) l
    made (inr q) = absurd q

-- references are no variables
pub ref_avoids : (s : Contents) (x i : ℕ) (j : CellId) → cell_at s i ≡ Ref j → IsUnbound (cell_at s x) → Avoids s x j.0 → Avoids s x i
ref_avoids s x i j e u n l = n (ref_leads s i x j e u l)

-- a number outside the store reads as the index 0
pub past_reads : (s : Contents) (i : ℕ) → length s.cells ≤ i → Index 0 ≡ cell_at s i
past_reads s i h = sym (get_or_past s.cells i (Index 0) h)

pub avoids_map : (s : Contents) (x : ℕ) (cs : List CellId) → All (AvoidsIn s x) cs → AvoidsAll s x (map (λ t. t.0) cs)
avoids_map s x [] a j m = absurd m
avoids_map s x (c ∷ cs) a j (inl e) = subst (Avoids s x) e (All-head (AvoidsIn s x) c cs a)
avoids_map s x (c ∷ cs) a j (inr m) = avoids_map s x cs (All-tail (AvoidsIn s x) c cs a) j m

pub apart_avoids : (s : Contents) (x : ℕ) (cs : List CellId) → All (IsApart s x) cs → All (AvoidsIn s x) cs
apart_avoids s x cs a = All-weaker (IsApart s x) (AvoidsIn s x) (λ c p. p.1) cs a

pub app_avoids_all : (s : Contents) (x : ℕ) (f : CellId) (l : Span) → Avoids s x f.0 → All (AvoidsIn s x) (span s.items l.from l.count) → AvoidsAll s x (parts s (App f l))
app_avoids_all s x f l n a j (inl e) = subst (Avoids s x) e n
app_avoids_all s x f l n a j (inr m) = avoids_map s x (span s.items l.from l.count) a j m

pub one_avoided : (s : Contents) (x b : ℕ) → Avoids s x b → AvoidsAll s x (b ∷ [])
one_avoided s x b n j (inl e) = subst (Avoids s x) e n
one_avoided s x b n j (inr m) = absurd m

pub two_avoided : (s : Contents) (x a b : ℕ) → Avoids s x a → Avoids s x b → AvoidsAll s x (a ∷ b ∷ [])
two_avoided s x a b n p j (inl e) = subst (Avoids s x) e n
two_avoided s x a b n p j (inr (inl e)) = subst (Avoids s x) e p
two_avoided s x a b n p j (inr (inr m)) = absurd m

pub none_avoided : (s : Contents) (x : ℕ) → AvoidsAll s x []
none_avoided s x j m = absurd m

pub const_apart : (s : Contents) (x : ℕ) (c : CellId) (n : ℕ) (l : Span) → c.0 < length s.cells → (c.0 ≡ x → ⊥) → Const n l ≡ cell_at s c.0 → All (AvoidsIn s x) (span s.items l.from l.count) → IsApart s x c
const_apart s x c n l h o e a = (h, cell_avoids s x c.0 (Const n l) (sym e) o (avoids_map s x (span s.items l.from l.count) a))

pub app_apart : (s : Contents) (x : ℕ) (c f : CellId) (l : Span) (cs : List CellId) → c.0 < length s.cells → IsUnbound (cell_at s x) → App f l ≡ cell_at s c.0 → IsApart s x f → cs ≡ span s.items l.from l.count → All (IsApart s x) cs → IsApart s x c
app_apart s x c f l cs h u e p q a =
    (h, cell_avoids s x c.0 (App f l) (sym e) (unbound_apart s x c.0 (App f l) (sym e) u (λ z. cc) (λ k z. cc)) (app_avoids_all s x f l p.1 (subst (All (AvoidsIn s x)) q (apart_avoids s x cs a))))

-- cells put on a stack, the last one first
pub reversed_all : (P : CellId → Type 0) (cs old new : List CellId) → new ≡ old ++ reverse cs → All P cs → All P old → All P new
reversed_all P cs old new e a b = subst (All P) (sym e) (All-append P old (reverse cs) b (All_reverse P cs a))

pub reversed_parts : (P : CellId → Type 0) (cs old new : List CellId) → new ≡ old ++ reverse cs → All P new → All P old × All P cs
reversed_parts P cs old new e a =
    let b = subst (All P) e a in
    (All_front P old (reverse cs) b, subst (All P) (reverse-reverse cs) (All_reverse P (reverse cs) (All_back P old (reverse cs) b)))

-- a type that is visited
pub con_absent : (s : Contents) (x i c : ℕ) (l : Span) (cs old new : List CellId) → cell_at s i ≡ TypeCon c l → IsUnbound (cell_at s x) → cs ≡ span s.items l.from l.count → new ≡ old ++ reverse cs →
    All (AvoidsIn s x) new → All (AvoidsIn s x) old × Avoids s x i
con_absent s x i c l cs old new e u q p a =
    let b = reversed_parts (AvoidsIn s x) cs old new p a in
    (b.0, cell_avoids s x i (TypeCon c l) e (unbound_apart s x i (TypeCon c l) e u (λ z. cc) (λ k z. cc)) (avoids_map s x (span s.items l.from l.count) (subst (All (AvoidsIn s x)) q b.1)))

pub arrow_absent : (s : Contents) (x i : ℕ) (f t : CellId) (old mid new : List CellId) → cell_at s i ≡ TypeArrow f t → IsUnbound (cell_at s x) → mid ≡ old ++ t ∷ [] → new ≡ mid ++ f ∷ [] →
    All (AvoidsIn s x) new → All (AvoidsIn s x) old × Avoids s x i
arrow_absent s x i f t old mid new e u q p a =
    let b = All_popped (AvoidsIn s x) new mid f p a in
    let d = All_popped (AvoidsIn s x) mid old t q b.0 in
    (d.0, cell_avoids s x i (TypeArrow f t) e (unbound_apart s x i (TypeArrow f t) e u (λ z. cc) (λ k z. cc)) (two_avoided s x f.0 t.0 b.1 d.1))

pub var_absent : (s : Contents) (x i : ℕ) (old : List CellId) → cell_at s i ≡ TypeVar → nat_eq i x ≡ false → All (AvoidsIn s x) old → All (AvoidsIn s x) old × Avoids s x i
var_absent s x i old e n a = (a, cell_avoids s x i TypeVar e (not_equal i x n) (none_avoided s x))
