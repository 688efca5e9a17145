-- The steps of reading back: downwards to the parts of a cell, and upwards with what is built.
use Rattle.std.proofs.Common.{◌≡◌, ℕ, zero, suc, ◌+◌, ◌<◌, ◌≤◌, inl, List, [], ◌∷◌, ◌++◌, length, refl, sym, ap, ◌∙◌, subst, arith, Option, Some, None, slice_index_or}
use Rattle.std.specs.Prelude.{All, IsSome}
use Rattle.lp_calculus.specs.Term.{Term, abs, app, apply}
use Rattle.lp_calculus.specs.Convert.{head_step, leftmost_step, option_term}
use Rattle.lp_store.specs.declared.cell.Cell.TheVariants.{Abs, App}
use Rattle.lp_store.specs.declared.cell.CellId.{CellId}
use Rattle.lp_store.specs.declared.cell.Span.{Span}
use Rattle.lp_store.specs.Contents.{Contents, cell_at, span}
use Rattle.lp_store.specs.Reading.{Reads, ReadAll, none}
use Rattle.lp_term.specs.declared.node.TermId.{TermId}
use Rattle.lp_term.specs.declared.reduce.TermRefusal.{TermRefusal}
use Rattle.lp_term.specs.declared.reduce.TermRefusal.TheVariants.{Deep, Memory}
use Rattle.lp_term.specs.Nodes.{Nodes, tree, Extends}
use Rattle.lp_susp.specs.declared.reading.Frame.{Frame}
use Rattle.lp_susp.specs.declared.reading.Frame.TheVariants.{Under, Head, Argument}
use Rattle.lp_susp.specs.declared.reading.State.TheVariants.{Fresh, Known, Built}
use Rattle.lp_susp.specs.Kept.{Reduced}
use Rattle.lp_susp.specs.Counted.{Counts, IsStopped, IsDeepBeta}
use Rattle.lp_susp.specs.Frames.{IsNeutral, numbers, Plugged, FrameStands, StateOf}
use Rattle.lp_susp.proofs.Chains.{abs_parts, app_parts}
use Rattle.lp_susp.proofs.Redexes.{some_read, first_read, tail_read}
use Rattle.lp_susp.proofs.Plugs.{none_head_neutral, neutral_none, under_none, head_leftmost, argument_normal, plug_push, plug_pop, plug_bank, plug_step, plug_works, counts_on, counts_longer, one_more_step}

-- downwards
pub down_abs : (s : Contents) (b : Nodes) (i : ℕ) (body : CellId) (front new : List Frame) → cell_at s i ≡ Abs body → new ≡ front ++ Under ∷ [] → (x w : Term) → Reads s i x → head_step x ≡ None → Plugged s b front x w →
    (y : Term) × StateOf s b (Known body) y × Plugged s b new y w
down_abs s b i body front new e q x w r h p =
    let k = abs_parts s i body x e r in
    (k.0, (k.1, under_none k.0 (ap head_step (sym k.2) ∙ h)), subst (λ l. Plugged s b l k.0 w) (sym q) (plug_push s b front Under k.0 x w k.2 p))

pub down_app : (s : Contents) (b : Nodes) (i : ℕ) (head : CellId) (l : Span) (front new : List Frame) → cell_at s i ≡ App head l → l.from + l.count ≤ length s.items → 0 < l.count → new ≡ front ++ Head l ∷ [] → (x w : Term) → Reads s i x → head_step x ≡ None → Plugged s b front x w →
    (y : Term) × StateOf s b (Known head) y × Plugged s b new y w
down_app s b i head l front new e a c q x w r h p =
    let k = app_parts s i head l x e r in
    let u = some_read s s.items l.from l.count a c k.1 k.3 in
    let n : IsNeutral k.0 = none_head_neutral k.0 u.1 u.0 (ap (λ y. head_step (apply k.0 y)) (sym u.2) ∙ ap head_step (sym k.4) ∙ h) in
    (k.0, (k.2, neutral_none k.0 n), subst (λ y. Plugged s b y k.0 w) (sym q) (plug_push s b front (Head l) k.0 x w (k.1, k.3, k.4, n) p))

-- upwards
pub up_abs : (s : Contents) (b d : Nodes) (front old : List Frame) (built id : TermId) → Extends b d → All (FrameStands s b) front → old ≡ front ++ Under ∷ [] → tree d id.0 ≡ abs (tree b built.0) →
    (x w : Term) → x ≡ tree b built.0 → leftmost_step x ≡ None → Plugged s b old x w → (y : Term) × StateOf s d (Built id) y × Plugged s d front y w
up_abs s b d front old built id e a q t x w g n p =
    let k = plug_pop s b front Under x w (subst (λ l. Plugged s b l x w) q p) in
    (k.0, (k.1 ∙ ap abs g ∙ sym t, ap leftmost_step k.1 ∙ ap (option_term abs) n), plug_bank s b d e front a k.0 w k.2)

pub next_of : (s : Contents) (b : Nodes) (front new : List Frame) (d : TermId) (l rest : Span) (c : CellId) (z : CellId) → l.from + l.count ≤ length s.items → 0 < l.count → rest.from ≡ l.from + 1 → rest.count + 1 ≡ l.count → new ≡ front ++ Argument d rest ∷ [] →
    c ≡ slice_index_or (span s.items l.from l.count) 0 z → (v w : Term) (us : List Term) → ReadAll s (numbers (span s.items l.from l.count)) us → v ≡ apply (tree b d.0) us → IsNeutral (tree b d.0) → leftmost_step (tree b d.0) ≡ None →
    Plugged s b front v w → (y : Term) × StateOf s b (Fresh c) y × Plugged s b new y w
next_of s b front new d l rest c z h o f g q e v w us r k n m p =
    let u = some_read s s.items l.from l.count h o us r in
    let r2 : ReadAll s (numbers (span s.items l.from l.count)) (u.0 ∷ u.1) = subst (ReadAll s (numbers (span s.items l.from l.count))) u.2 r in
    let a : Reads s c.0 u.0 = subst (λ i. Reads s i.0 u.0) (sym e) (first_read s (span s.items l.from l.count) z u.0 u.1 r2) in
    let t : ReadAll s (numbers (span s.items rest.from rest.count)) u.1 = tail_read s s.items l.from l.count rest.from rest.count h f g u.0 u.1 r2 in
    (u.0, a, subst (λ y. Plugged s b y u.0 w) (sym q) (plug_push s b front (Argument d rest) u.0 v w (u.1, t, k ∙ ap (apply (tree b d.0)) u.2, n, m) p))

pub up_head : (s : Contents) (b : Nodes) (front old new : List Frame) (built : TermId) (l rest : Span) (c z : CellId) → old ≡ front ++ Head l ∷ [] → l.from + l.count ≤ length s.items → 0 < l.count → rest.from ≡ l.from + 1 → rest.count + 1 ≡ l.count →
    new ≡ front ++ Argument built rest ∷ [] → c ≡ slice_index_or (span s.items l.from l.count) 0 z → (x w : Term) → x ≡ tree b built.0 → leftmost_step x ≡ None → Plugged s b old x w → (y : Term) × StateOf s b (Fresh c) y × Plugged s b new y w
up_head s b front old new built l rest c z o h i f g q e x w t n p =
    let k = plug_pop s b front (Head l) x w (subst (λ y. Plugged s b y x w) o p) in
    next_of s b front new built l rest c z h i f g q e k.0 w k.1.0 k.1.1 (k.1.2 ∙ ap (λ y. apply y k.1.0) t) (subst IsNeutral t k.1.3) (ap leftmost_step (sym t) ∙ n) k.2

pub up_last : (s : Contents) (b d : Nodes) (front old : List Frame) (built id head : TermId) (l : Span) → Extends b d → All (FrameStands s b) front → old ≡ front ++ Argument head l ∷ [] → span s.items l.from l.count ≡ [] → tree d id.0 ≡ app (tree b head.0) (tree b built.0) →
    (x w : Term) → x ≡ tree b built.0 → leftmost_step x ≡ None → Plugged s b old x w → (y : Term) × StateOf s d (Built id) y × Plugged s d front y w
up_last s b d front old built id head l e a q z t x w g n p =
    let k = plug_pop s b front (Argument head l) x w (subst (λ y. Plugged s b y x w) q p) in
    let v : k.0 ≡ app (tree b head.0) x = k.1.2 ∙ ap (apply (app (tree b head.0) x)) (empty (subst (λ y. ReadAll s (numbers y) k.1.0) z k.1.1)) in
    (k.0, (v ∙ ap (app (tree b head.0)) g ∙ sym t, ap leftmost_step v ∙ argument_normal (tree b head.0) x k.1.3 k.1.4 n), plug_bank s b d e front a k.0 w k.2)
  where
    empty : {us : List Term} → ReadAll s [] us → us ≡ []
    empty none = refl

pub up_next : (s : Contents) (b d : Nodes) (front old new : List Frame) (built id head : TermId) (l rest : Span) (c z : CellId) → Extends b d → All (FrameStands s b) front → old ≡ front ++ Argument head l ∷ [] → tree d id.0 ≡ app (tree b head.0) (tree b built.0) →
    l.from + l.count ≤ length s.items → 0 < l.count → rest.from ≡ l.from + 1 → rest.count + 1 ≡ l.count → new ≡ front ++ Argument id rest ∷ [] → c ≡ slice_index_or (span s.items l.from l.count) 0 z →
    (x w : Term) → x ≡ tree b built.0 → leftmost_step x ≡ None → Plugged s b old x w → (y : Term) × StateOf s d (Fresh c) y × Plugged s d new y w
up_next s b d front old new built id head l rest c z e a o t h i f g q j x w r n p =
    let k = plug_pop s b front (Argument head l) x w (subst (λ y. Plugged s b y x w) o p) in
    let v : app (tree b head.0) x ≡ tree d id.0 = ap (app (tree b head.0)) r ∙ sym t in
    next_of s d front new id l rest c z h i f g q j k.0 w k.1.0 k.1.1 (k.1.2 ∙ ap (λ y. apply y k.1.0) v) (subst IsNeutral v k.1.3) (ap leftmost_step (sym v) ∙ argument_normal (tree b head.0) x k.1.3 k.1.4 n) (plug_bank s b d e front a k.0 w k.2)

-- a reduction that stopped
some_of : (o : Option Term) → IsSome o → (x : Term) × (o ≡ Some x)
some_of None h = absurd (cc)
some_of (Some x) h = (x, refl)

pub stopped_beta : (s : Contents) (b : Nodes) (fs : List Frame) (limit told left done : ℕ) (t x w : Term) (e : TermRefusal) → Reduced s s → All
    (FrameStands s b) fs → told ≡ limit → done + left ≡ limit → Counts leftmost_step done t w → Plugged s b fs x w → IsStopped told left x e →
    IsDeepBeta limit t e
stopped_beta s b fs limit told left done t x w Memory same a g h c p k = tt
stopped_beta s b fs limit told left done t x w (Deep n) same a g h c p k =
    let q = plug_works s b fs a same k.2 w p in
    let r = some_of (head_step k.1) k.3 in
    let v = plug_step s b fs k.1 r.0 q.0 q.1 (head_leftmost k.1 r.0 r.1) in
    let m = counts_on c q.2 limit (omega arith) in
    (k.0 ∙ g, inl (counts_longer m 1 (suc limit) (omega arith) (one_more_step q.0 v.0 v.1)))

pub some_count : {A : Type 0} (xs : List A) (from count : ℕ) → 0 < length (span xs from count) → 0 < count
some_count xs from zero h = h
some_count xs from (suc c) h = omega arith
