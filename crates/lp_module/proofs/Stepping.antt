-- What each turn of the copies does to the program so far.
use Rattle.std.specs.Global.{Global}
use Rattle.std.proofs.Common.{◌≡◌, ℕ, ◌+◌, ◌-◌, ◌<◌, ◌≤◌, List, [], ◌∷◌, ◌++◌, length, map, get_or, reverse, Some, refl, sym, ap, subst, ◌∙◌, arith}
use Rattle.std.specs.Prelude.{sum_by, slice_get, Vec}
use Rattle.std.proofs.lemmas.Option.{slice_get-get_or}
use Rattle.std.proofs.lemmas.List.Sums.{sum_by-append, sum_by_push}
use Rattle.std.proofs.lemmas.List.{append-nil, reverse-append}
use Rattle.lp_copies.specs.Copies.{Copies, RestOfCopies, IsOpened, IsClosed, IsTooMany as AreTooMany}
use Rattle.lp_copies.specs.Trees.{lists_in, IsCopying, frames_of, Turns, Moves}
use Rattle.lp_copies.specs.declared.copying.Copying.{Copying}
use Rattle.lp_copies.specs.declared.copying.Turn.TheVariants.{Entered, Left, Ended}
use Rattle.lp_copies.specs.declared.fault.TreeRefusal.{TreeRefusal}
use Rattle.lp_copies.specs.declared.fault.TreeRefusal.TheVariants as refusal
use Rattle.lp_copies.proofs.Copied.{row_is, rows_are, copies_begin}
use Rattle.lp_model.specs.Readings.{formula_of}
use Rattle.lp_module.specs.Copies.{IsOrder, IsTooMany, uses_of}
use Rattle.lp_module.specs.Making.{IsSoFar, MakesNames}
use Rattle.lp_module.specs.Program.{Copy, Next, first_of, clauses_of}
use Rattle.lp_module.specs.Trees.{fault_of}
use Rattle.lp_module.specs.declared.copies.Making.{Making}
use Rattle.lp_module.specs.declared.module.Module.{Module}
use Rattle.lp_module.specs.declared.numbers.Open.{Open}
use Rattle.lp_module.specs.declared.tree.Hidden.{Hidden}
use Rattle.lp_module.specs.inner.Assembling.{counted, in_all, past, AreOpen, next_of, own_kinds, own_constants, AreTabled, AreCopiesOf, Enters, Leaves, IsMaking, IsPlanned}
use Rattle.lp_module.proofs.Uses.{uses_count}
use Rattle.lp_module.proofs.Totals.{Fits, fits, rest_more}
use Rattle.lp_module.proofs.Composing.{own_at, making_begun, making_entered, making_left, making_ended, plan_fits}

pub tree_told : (uses : List (List ℕ)) (root : ℕ) (r : TreeRefusal) → AreTooMany uses root r → IsTooMany uses root (fault_of r)
tree_told uses root refusal.TooMany h = h
tree_told uses root refusal.Memory h = tt

-- the bounds of what is entered
pub enter_fits : (own T : ℕ → ℕ) (first : ℕ) (left : List ℕ) (m : ℕ) (inside out : List ℕ) (next below mine : ℕ) → Fits own T first left m inside → out ≡ inside → next ≡ first + sum_by own left → below ≡ counted (sum_by T out) → own m ≡ mine → next + below + mine ≤ 1048576
enter_fits own T first left m inside out next below mine f o n b e =
    let s = b ∙ ap (λ l. counted (sum_by T l)) o ∙ f.below in
    let l = f.limit in
    omega (arith, s, n, e, l)

abbrev pub next_by : Next → Hidden → Next
next_by n below = record { kinds = n.kinds + below.kinds; constants = n.constants + below.constants }

pub from_is : (ts : List Hidden) (n : Next) (below : Hidden) (out inside : List ℕ) → out ≡ inside → below.kinds ≡ counted (sum_by (in_all (λ h. h.kinds) ts) out) → below.constants ≡ counted (sum_by (in_all (λ h. h.constants) ts) out) →
    counted (sum_by (in_all (λ h. h.kinds) ts) inside) ≡ sum_by (in_all (λ h. h.kinds) ts) inside → counted (sum_by (in_all (λ h. h.constants) ts) inside) ≡ sum_by (in_all (λ h. h.constants) ts) inside →
    next_by n below ≡ past ts n inside
from_is ts n below out inside o k c fk fc =
    let a = k ∙ ap (λ l. counted (sum_by (in_all (λ h. h.kinds) ts) l)) o ∙ fk in
    let b = c ∙ ap (λ l. counted (sum_by (in_all (λ h. h.constants) ts) l)) o ∙ fc in
    λ i. record { kinds = n.kinds + a i; constants = n.constants + b i }

pub module_at : (modules : List Module) (m : ℕ) (member : Module) → m < length modules → member ≡ get_or modules m member → slice_get modules m ≡ Some member
module_at modules m member h is = slice_get-get_or modules m member h ∙ ap (λ x. Some x) (sym is)

module _ (modules : List Module) (root : ℕ) (ts : List Hidden) (uses : List (Vec ℕ Global)) (us : lists_in uses ≡ uses_of modules) (order : List ℕ) (plan : IsPlanned modules root ts order) where
  -- the root
  module _ (top : Module) (h : root < length modules) (is : top ≡ get_or modules root top) where
    root_rest : RestOfCopies (uses_of modules) [] ((root, 0) ∷ []) order
    root_rest = (subst (λ u. (all : List ℕ) → Copies u (root ∷ []) all → RestOfCopies u [] ((root, 0) ∷ []) all) us (λ all c. (copies_begin (lists_in uses) root (omega (arith, h, rows_are uses, uses_count modules uses us))).each all c)) order plan.copies

    pub root_fits : Fits (own_kinds modules) (in_all (λ h. h.kinds) ts) (first_of top).kinds [] root (get_or (uses_of modules) root []) × Fits (own_constants modules) (in_all (λ h. h.constants) ts) (first_of top).constants [] root (get_or (uses_of modules) root [])
    root_fits = (
      fits (uses_of modules) (own_kinds modules) (in_all (λ h. h.kinds) ts) (first_of top).kinds [] root [] order root_rest plan.kinds
          (let z = own_at (λ m. length m.signature.kinds.items - length m.hidden_kinds.items) modules root top (module_at modules root top h is) in
          omega (arith, z, plan.kinds_fit)),
      fits (uses_of modules) (own_constants modules) (in_all (λ h. h.constants) ts) (first_of top).constants [] root [] order root_rest plan.constants
          (let z = own_at (λ m. length m.signature.constants.items - length m.hidden_constants.items) modules root top
          (module_at modules root top h is) in omega (arith, z, plan.constants_fit)),
    )

    pub root_names : (8 + length top.signature.kinds.items ≤ 1048576) × (32 + length top.signature.constants.items ≤ 1048576)
    root_names =
        let (k, c) = root_fits in
        let a = own_at (λ m. length m.hidden_kinds.items) modules root top (module_at modules root top h is) in
        let b = own_at (λ m. length m.hidden_constants.items) modules root top (module_at modules root top h is) in
        let l = k.limit in
        let m = c.limit in
        (omega (arith, a, l), omega (arith, b, m))

    pub root_kinds : (next below : Hidden) (out : Vec ℕ Global) → out ≡ get_or uses root out → next_of next ≡ first_of top → below.kinds ≡ counted (sum_by (in_all (λ h. h.kinds) ts) out.items) → next.kinds + below.kinds + length top.hidden_kinds.items ≤ 1048576
    root_kinds next below out at first k =
        let o = row_is uses root out (omega (arith, h, uses_count modules uses us)) at ∙ ap (λ u. get_or u root []) us in
        let e = ap (λ n. n.kinds) first in
        let z : sum_by (own_kinds modules) [] ≡ 0 = refl in
        enter_fits (own_kinds modules) (in_all (λ h. h.kinds) ts) (first_of top).kinds [] root (get_or (uses_of modules) root []) out.items next.kinds below.kinds (length top.hidden_kinds.items) root_fits.0 o (omega (arith, e, z)) k
        (own_at (λ m. length m.hidden_kinds.items) modules root top (module_at modules root top h is))

    pub root_constants : (next below : Hidden) (out : Vec ℕ Global) → out ≡ get_or uses root out → next_of next ≡ first_of top → below.constants ≡ counted (sum_by (in_all (λ h. h.constants) ts) out.items) → next.constants + below.constants + length top.hidden_constants.items ≤ 1048576
    root_constants next below out at first k =
        let o = row_is uses root out (omega (arith, h, uses_count modules uses us)) at ∙ ap (λ u. get_or u root []) us in
        let e = ap (λ n. n.constants) first in
        let z : sum_by (own_constants modules) [] ≡ 0 = refl in
        enter_fits (own_constants modules) (in_all (λ h. h.constants) ts) (first_of top).constants [] root (get_or (uses_of modules) root []) out.items next.constants below.constants (length top.hidden_constants.items) root_fits.1 o (omega (arith, e, z)) k
        (own_at (λ m. length m.hidden_constants.items) modules root top (module_at modules root top h is))

    pub root_begun : (old new : Making) (around : List Open) (out : Vec ℕ Global) (below : Hidden) (c : Copying) → out ≡ get_or uses root out → below.kinds ≡ counted (sum_by (in_all (λ h. h.kinds) ts) out.items) → below.constants ≡ counted (sum_by (in_all (λ h. h.constants) ts) out.items) →
        IsSoFar old → old.clauses.items ≡ [] → next_of old.next ≡ first_of top → (old.kinds.items ≡ []) × (old.constants.items ≡ []) × (old.declared.items ≡ []) → MakesNames old new → Enters old new [] around top (record { kinds = old.next.kinds + below.kinds; constants = old.next.constants + below.constants }) → c.left.items ≡ [] → frames_of c ≡ (root, 0) ∷ [] →
        IsMaking modules root ts (frames_of c) c.left.items new around
    root_begun old new around out below c at k n sofar none first unnamed names enters empty frames =
        let (fk, fc) = root_fits in
        let o = row_is uses root out (omega (arith, h, uses_count modules uses us)) at ∙ ap (λ u. get_or u root []) us in
        subst (λ fs. IsMaking modules root ts fs c.left.items new around) (sym frames)
        (making_begun modules root ts old new around c.left.items top (record { kinds = old.next.kinds + below.kinds; constants = old.next.constants + below.constants }) (module_at modules root top h is) sofar none first unnamed names empty enters.opens enters.names
        (from_is ts (next_of old.next) below out.items (get_or (uses_of modules) root []) o k n fk.below fc.below ∙ ap (λ x. past ts x (get_or (uses_of modules) root [])) first))

  -- a turn
  module _ (c c' : Copying) (old : Making) (around : List Open) (making : IsMaking modules root ts (frames_of c) c.left.items old around) (of_root : c.root ≡ root) where
    pub never_empty : around ≡ [] → ⊥
    never_empty e = subst (λ l. AreOpen modules ts (next_of old.next) (frames_of c) (reverse l)) e making.open_ones

    leaves_within : (m next : ℕ) (fs : List (ℕ × ℕ)) → frames_of c ≡ (m, next) ∷ fs → (left more : List ℕ) → left ≡ c.left.items ++ m ∷ [] → order ≡ left ++ more → (o : Open) (rest : List Open) → around ≡ rest ++ o ∷ [] →
        (old.next.kinds + length o.module.now.hidden_kinds.items ≤ 1048576) × (old.next.constants + length o.module.now.hidden_constants.items ≤ 1048576)
    leaves_within m next fs before left more is all o rest last =
        let opened = subst (λ l. AreOpen modules ts (next_of old.next) l (o ∷ reverse rest)) before (subst (AreOpen modules ts (next_of old.next) (frames_of c)) (ap reverse last ∙ reverse-append rest (o ∷ [])) making.open_ones) in
        let hk = own_at (λ m. length m.hidden_kinds.items) modules m o.module.now opened.0 in
        let hc = own_at (λ m. length m.hidden_constants.items) modules m o.module.now opened.0 in
        let s = ap (sum_by (own_kinds modules)) (all ∙ ap (λ l. l ++ more) is) ∙ sum_by-append (own_kinds modules) (c.left.items ++ m ∷ []) more in
        let s1 = sum_by_push (own_kinds modules) c.left.items m in
        let t = ap (sum_by (own_constants modules)) (all ∙ ap (λ l. l ++ more) is) ∙ sum_by-append (own_constants modules) (c.left.items ++ m ∷ []) more in
        let t1 = sum_by_push (own_constants modules) c.left.items m in
        let a = own_at (λ m. length m.signature.kinds.items - length m.hidden_kinds.items) modules root making.next.top making.next.at in
        let b = own_at (λ m. length m.signature.constants.items - length m.hidden_constants.items) modules root making.next.top making.next.at in
        let k = making.next.kinds in
        let n = making.next.constants in
        (omega (arith, s, s1, hk, a, k, plan.kinds_fit), omega (arith, t, t1, hc, b, n, plan.constants_fit))

    pub left_within : (m : ℕ) → Turns (lists_in uses) c c' (Left m) → Moves (lists_in uses) (frames_of c) (frames_of c') (Left m) → (o : Open)
        (rest : List Open) → around ≡ rest ++ o ∷ [] → (old.next.kinds + length o.module.now.hidden_kinds.items ≤ 1048576) ×
        (old.next.constants + length o.module.now.hidden_constants.items ≤ 1048576)
    left_within m turns moves =
        let (more, e) = rest_more (uses_of modules) c'.left.items (frames_of c') order ((subst (λ u. IsCopying u c') us turns.0).each order (subst (λ k. Copies (uses_of modules) (k ∷ []) order) (sym (turns.1 ∙ of_root)) plan.copies)) in
        leaves_within m moves.next (frames_of c') moves.before c'.left.items more turns.3 e

    pub ended_within : (m : ℕ) → Turns (lists_in uses) c c' (Ended m) → Moves (lists_in uses) (frames_of c) (frames_of c') (Ended m) → (o : Open)
        (rest : List Open) → around ≡ rest ++ o ∷ [] → (old.next.kinds + length o.module.now.hidden_kinds.items ≤ 1048576) ×
        (old.next.constants + length o.module.now.hidden_constants.items ≤ 1048576)
    ended_within m turns moves =
        let same = turns.5 order (subst (λ u. Copies u (c.root ∷ []) order) (sym us) (subst (λ k. Copies (uses_of modules) (k ∷ []) order) (sym of_root) plan.copies)) in
        leaves_within m moves.next [] moves.before c'.left.items [] turns.2 (same ∙ sym (append-nil c'.left.items))

    module _ (m : ℕ) (turns : Turns (lists_in uses) c c' (Entered m)) (moves : Moves (lists_in uses) (frames_of c) (frames_of c') (Entered m)) where
      opened_here : IsOpened (uses_of modules) (frames_of c) m (frames_of c')
      opened_here = subst (λ u. IsOpened u (frames_of c) m (frames_of c')) us moves

      pub entered_within : m < length modules
      entered_within = let a = uses_count modules uses us in let b = rows_are uses in let w = turns.4 in omega (arith, w, a, b)

      pub entered_bounds : Fits (own_kinds modules) (in_all (λ h. h.kinds) ts) (first_of making.next.top).kinds c'.left.items m
          (get_or (uses_of modules) m []) × Fits (own_constants modules) (in_all (λ h. h.constants) ts) (first_of making.next.top).constants
          c'.left.items m (get_or (uses_of modules) m [])
      entered_bounds = plan_fits modules root ts order making.next.top making.next.at plan c' (subst (λ u. IsCopying u c') us turns.0) (turns.1 ∙ of_root) m ((opened_here.at, opened_here.next + 1) ∷ opened_here.around) opened_here.after

      module _ (member : Module) (out : Vec ℕ Global) (below : Hidden) (is : member ≡ get_or modules m member) (at : out ≡ get_or uses m out)
          (k : below.kinds ≡ counted (sum_by (in_all (λ h. h.kinds) ts) out.items))
          (n : below.constants ≡ counted (sum_by (in_all (λ h. h.constants) ts) out.items)) where
        inside : out.items ≡ get_or (uses_of modules) m []
        inside = row_is uses m out (omega (arith, entered_within, uses_count modules uses us)) at ∙ ap (λ u. get_or u m []) us

        pub entered_kinds : old.next.kinds + below.kinds + length member.hidden_kinds.items ≤ 1048576
        entered_kinds =
            enter_fits (own_kinds modules) (in_all (λ h. h.kinds) ts) (first_of making.next.top).kinds c'.left.items m (get_or (uses_of modules) m []) out.items old.next.kinds below.kinds (length member.hidden_kinds.items) entered_bounds.0 inside
            (making.next.kinds ∙ ap (λ l. (first_of making.next.top).kinds + sum_by (own_kinds modules) l) (sym turns.3)) k (own_at (λ m. length m.hidden_kinds.items) modules m member (module_at modules m member entered_within is))

        pub entered_constants : old.next.constants + below.constants + length member.hidden_constants.items ≤ 1048576
        entered_constants =
            enter_fits (own_constants modules) (in_all (λ h. h.constants) ts) (first_of making.next.top).constants c'.left.items m (get_or (uses_of modules) m []) out.items old.next.constants below.constants (length member.hidden_constants.items) entered_bounds.1 inside
            (making.next.constants ∙ ap (λ l. (first_of making.next.top).constants + sum_by (own_constants modules) l) (sym turns.3)) n (own_at (λ m. length m.hidden_constants.items) modules m member (module_at modules m member entered_within is))

        pub turn_entered : (new : Making) (more : List Open) → MakesNames old new → Enters old new around more member (record { kinds = old.next.kinds + below.kinds; constants = old.next.constants + below.constants }) → IsMaking modules root ts (frames_of c') c'.left.items new more
        turn_entered new more names enters =
            let there = module_at modules m member entered_within is in
            let hk = own_at (λ m. length m.hidden_kinds.items) modules m member there in
            let hc = own_at (λ m. length m.hidden_constants.items) modules m member there in
            subst (λ l. IsMaking modules root ts (frames_of c') l new more) (sym turns.3)
            (making_entered modules root ts old new around more c.left.items m member (record { kinds = old.next.kinds + below.kinds; constants = old.next.constants + below.constants }) names enters.opens enters.names there
            (from_is ts (next_of old.next) below out.items (get_or (uses_of modules) m []) inside k n entered_bounds.0.below entered_bounds.1.below)
            (entered_bounds.0.total ∙ ap (λ x. x + sum_by (in_all (λ h. h.kinds) ts) (get_or (uses_of modules) m [])) hk)
            (entered_bounds.1.total ∙ ap (λ x. x + sum_by (in_all (λ h. h.constants) ts) (get_or (uses_of modules) m [])) hc)
            (frames_of c) (frames_of c') making opened_here)

    pub turn_left : (m : ℕ) → Turns (lists_in uses) c c' (Left m) → Moves (lists_in uses) (frames_of c) (frames_of c') (Left m) → (new : Making) (less : List Open) → Leaves old new around less → IsMaking modules root ts (frames_of c') c'.left.items new less
    turn_left m turns moves new less leaves = making_left modules root ts old new around less c.left.items c'.left.items m (frames_of c) (frames_of c') making (subst (λ u. IsClosed u (frames_of c) m (frames_of c')) us moves) leaves turns.3

    pub turn_ended : (m : ℕ) → Turns (lists_in uses) c c' (Ended m) → Moves (lists_in uses) (frames_of c) (frames_of c') (Ended m) → (new : Making) (less : List Open) → Leaves old new around less →
        (copied : List Copy) × (top : Module) × (copy : Copy) × AreCopiesOf modules root top copy copied × IsOrder modules root (map (λ c. c.member) copied) × (map (formula_of new.bank) new.clauses.items ≡ clauses_of modules copied) × AreTabled modules top copy copied new
    turn_ended m turns moves new less leaves =
        let i = making_left modules root ts old new around less c.left.items c'.left.items m (frames_of c) [] making (subst (λ u. IsClosed u (frames_of c) m []) us moves) leaves turns.2 in
        let (copied, top, copy, are, members, clauses, tables) = making_ended modules root ts c'.left.items new less i in
        (copied, top, copy, are, subst (IsOrder modules root) (sym members) (subst (λ r. Copies (uses_of modules) (r ∷ []) c'.left.items) of_root (subst (λ u. Copies u (c.root ∷ []) c'.left.items) us turns.0)), clauses, tables)
