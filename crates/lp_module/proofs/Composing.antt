-- How a program grows, copy by copy.
use Rattle.std.proofs.Common.{◌≡◌, ℕ, zero, suc, ◌+◌, ◌-◌, ◌<◌, List, [], ◌∷◌, ◌++◌, length, map, get_or, reverse, Some, refl, sym, ap, subst, ◌∙◌, arith}
use Rattle.std.specs.Prelude.{sum_by, slice_get}
use Rattle.std.proofs.lemmas.List.{map-append, length-append, length-map}
use Rattle.std.proofs.lemmas.List.Sums.{sum_by-cons, sum_by_push}
use Rattle.std.proofs.lemmas.List.Elements.{All-head, All-tail}
use Rattle.lp_term.specs.Nodes.{Nodes, Extends}
use Rattle.lp_term.proofs.Trees.{extends-trans}
use Rattle.lp_model.specs.Readings.{formula_of}
use Rattle.lp_model.specs.declared.program.ClauseFormula as code
use Rattle.lp_copies.specs.Copies.{Copies, RestOfCopies, IsOpened, IsClosed}
use Rattle.lp_copies.specs.Trees.{IsCopying, frames_of}
use Rattle.lp_copies.specs.declared.copying.Copying.{Copying}
use Rattle.lp_module.specs.Copies.{uses_of}
use Rattle.lp_module.specs.Making.{IsSoFar, MakesNames}
use Rattle.lp_module.specs.Program.{Copy, Next, first_of, IsRoot, IsBelow, in_copy, clauses_in, clauses_of, exported_kinds, exported_constants, exported_schemes}
use Rattle.lp_module.specs.Sentences.{AreWithin}
use Rattle.lp_module.specs.declared.copies.Making.{Making}
use Rattle.lp_module.specs.declared.module.Module.{Module}
use Rattle.lp_module.specs.declared.numbers.Open.{Open}
use Rattle.lp_module.specs.declared.tree.Hidden.{Hidden}
use Rattle.lp_module.specs.inner.Assembling.{in_all, past, copy_of, IsOpen, AreOpen, RestOf, next_of, own_kinds, own_constants, AddsNames, AreTabled, AreCopiesOf, Opens, EntersNames, Leaves, IsMaking, IsPlanned}
use Rattle.lp_module.proofs.Totals.{Fits, fits}
use Rattle.lp_module.proofs.Tabled.{with_bank, within_later, typed_later, tabled_first, tabled_still, tabled_more}
use Rattle.lp_module.proofs.Assembling.{open_first, whole_first, open_more, whole_more, open_less, whole_less, clauses_push}

-- names, and more of them
pub names_then : (a b c : Making) → MakesNames a b → MakesNames b c → MakesNames a c
names_then a b c (m, s, e, n) (m', s', e', n') = ((λ x. m' (m x)), s' ∙ s, extends-trans a.bank b.bank c.bank e e', n' ∙ n)

-- formulas of a bank that grows
pub formulas_later : (b c : Nodes) (ks : List code.ClauseFormula) → Extends b c → AreWithin b ks → map (formula_of c) ks ≡ map (formula_of b) ks
formulas_later b c [] e w = refl
formulas_later b c (k ∷ ks) e w = λ i. record { type_vars = k.type_vars; formula = e.same_terms k.formula.0 (All-head (λ k. k.formula.0 < length b.terms) k ks w) i } ∷ formulas_later b c ks e (All-tail (λ k. k.formula.0 < length b.terms) k ks w) i

-- an open copy, whichever number its module has
module _ (o : Open) (k : ℕ) where
  root_at : (m : Module) (from : Next) → IsRoot m from (copy_of 0 o) → IsRoot m from (copy_of k o)
  root_at m from h = record { kinds = h.kinds; constants = h.constants }

  below_at : (p : Module) (a : Copy) (m : Module) (from : Next) → IsBelow p a m from (copy_of 0 o) → IsBelow p a m from (copy_of k o)
  below_at p a m from h = record { kinds = h.kinds; constants = h.constants }

pub own_at : (f : Module → ℕ) (ms : List Module) (k : ℕ) (m : Module) → slice_get ms k ≡ Some m → get_or (map f ms) k 0 ≡ f m
own_at f [] k m e = absurd (cc)
own_at f (x ∷ xs) zero m e = let z : x ≡ m = cc in ap f z
own_at f (x ∷ xs) (suc k) m e = own_at f xs k m e

module _ (modules : List Module) (root : ℕ) (ts : List Hidden) where
  -- the root is open
  pub making_begun : (old new : Making) (around : List Open) (left : List ℕ) (top : Module) (from : Next) → slice_get modules root ≡ Some top →
      IsSoFar old → old.clauses.items ≡ [] → next_of old.next ≡ first_of top → (old.kinds.items ≡ []) × (old.constants.items ≡ []) × (old.declared.items ≡ []) → MakesNames old new → left ≡ [] → (opens : Opens [] around top from) →
      EntersNames [] old new opens.opened → from ≡ past ts (first_of top) (get_or (uses_of modules) root []) →
      IsMaking modules root ts ((root, 0) ∷ []) left new around
  making_begun old new around left top from at sofar none first unnamed names empty opens put is = record {
    sofar = names.0 sofar;
    done = [];
    members = sym empty;
    clause_list = ap (map (formula_of new.bank)) (names.1 ∙ none);
    next = record { top = top; at = at; kinds = ap (λ n. n.kinds) begun ∙ nothing (own_kinds modules) (first_of top).kinds; constants = ap (λ n. n.constants) begun ∙ nothing (own_constants modules) (first_of top).constants };
    open_ones = subst (AreOpen modules ts (next_of new.next) ((root, 0) ∷ [])) (sym opens.inside) (open_first modules ts (next_of new.next) root opens.opened there (root_at opens.opened root opens.opened.module.now (past ts (next_of new.next) (get_or (uses_of modules) root [])) opened));
    copy = copy_of root opens.opened;
    tables = tabled_first modules top (copy_of root opens.opened) old new unnamed sofar (subst (λ m. AddsNames old new (exported_kinds m) (exported_constants m) (exported_schemes (copy_of root opens.opened) m)) opens.of put);
    whole = λ all r. subst (λ m. AreCopiesOf modules root m (copy_of root opens.opened) all) opens.of
        (whole_first modules ts (next_of new.next) root opens.opened all there (begun ∙ ap first_of (sym opens.of)) (subst (λ os. RestOf modules (next_of new.next) [] ((root, 0) ∷ []) os all) opens.inside r));
  }
    where
      begun : next_of new.next ≡ first_of top
      begun = ap next_of names.3 ∙ first

      nothing : (f : ℕ → ℕ) (n : ℕ) → n ≡ n + sum_by f left
      nothing f n = let z : sum_by f left ≡ 0 = ap (sum_by f) empty in omega (arith, z)

      there : slice_get modules root ≡ Some opens.opened.module.now
      there = at ∙ ap (λ m. Some m) (sym opens.of)

      opened : IsRoot opens.opened.module.now (past ts (next_of new.next) (get_or (uses_of modules) root [])) (copy_of 0 opens.opened)
      opened = subst (λ m. IsRoot m (past ts (next_of new.next) (get_or (uses_of modules) root [])) (copy_of 0 opens.opened)) (sym opens.of)
          (subst (λ n. IsRoot top n (copy_of 0 opens.opened)) (is ∙ ap (λ n. past ts n (get_or (uses_of modules) root [])) (sym begun)) opens.is_open)

  -- one more copy is open
  module _ (old new : Making) (around more : List Open) (left : List ℕ) (m : ℕ) (member : Module) (from : Next) (names : MakesNames old new) (opens : Opens around more member from) (put : EntersNames around old new opens.opened) (at : slice_get modules m ≡ Some member) (is : from ≡ past ts (next_of old.next) (get_or (uses_of modules) m []))
      (kinds : in_all (λ h. h.kinds) ts m ≡ length member.hidden_kinds.items + sum_by (in_all (λ h. h.kinds) ts) (get_or (uses_of modules) m []))
      (constants : in_all (λ h. h.constants) ts m ≡ length member.hidden_constants.items + sum_by (in_all (λ h. h.constants) ts)
      (get_or (uses_of modules) m [])) where
    there : slice_get modules m ≡ Some opens.opened.module.now
    there = at ∙ ap (λ m. Some m) (sym opens.of)

    inside_of : (p : Open) (os : List Open) → reverse around ≡ p ∷ os → IsBelow p.module.now (copy_of 0 p) opens.opened.module.now (past ts (next_of old.next) (get_or (uses_of modules) m [])) (copy_of m opens.opened)
    inside_of p os e =
        below_at opens.opened m p.module.now (copy_of 0 p) opens.opened.module.now (past ts (next_of old.next) (get_or (uses_of modules) m []))
        (subst (λ k. IsBelow p.module.now (copy_of 0 p) k (past ts (next_of old.next) (get_or (uses_of modules) m [])) (copy_of 0 opens.opened)) (sym opens.of)
        (subst (λ n. IsBelow p.module.now (copy_of 0 p) member n (copy_of 0 opens.opened)) is (subst (λ os. IsOpen os member from (copy_of 0 opens.opened)) e opens.is_open)))

    none_put : (f : ℕ × ℕ) (fs : List (ℕ × ℕ)) (os : List Open) → AreOpen modules ts (next_of old.next) (f ∷ fs) (reverse os) → EntersNames os old new opens.opened → AddsNames old new [] [] []
    none_put f fs [] a x = absurd a
    none_put f fs (p ∷ os) a x = x

    pub making_entered : (fs fs' : List (ℕ × ℕ)) → IsMaking modules root ts fs left old around → IsOpened (uses_of modules) fs m fs' → IsMaking modules root ts fs' left new more
    making_entered fs fs' i o = record {
      sofar = names.0 i.sofar;
      done = i.done;
      members = i.members;
      clause_list = ap (map (formula_of new.bank)) names.1 ∙ formulas_later old.bank new.bank old.clauses.items names.2 i.sofar.0 ∙ i.clause_list;
      next = record { top = i.next.top; at = i.next.at; kinds = ap (λ n. n.kinds) names.3 ∙ i.next.kinds; constants = ap (λ n. n.constants) names.3 ∙ i.next.constants };
      open_ones = subst (λ n. AreOpen modules ts n fs' (reverse more)) (sym same) (subst (λ l. AreOpen modules ts (next_of old.next) l (reverse more)) (sym o.after) (opened_by (reverse around) refl (subst (λ l. AreOpen modules ts (next_of old.next) l (reverse around)) o.before i.open_ones)));
      copy = i.copy;
      tables = tabled_still modules i.next.top i.copy i.done old new i.tables i.sofar (none_put (o.at, o.next) o.around around (subst (λ l. AreOpen modules ts (next_of old.next) l (reverse around)) o.before i.open_ones) put);
      whole = λ all r. whole_by all (reverse around) refl (subst (λ l. AreOpen modules ts (next_of old.next) l (reverse around)) o.before i.open_ones)
          (subst (λ n. RestOf modules n i.done ((m, 0) ∷ (o.at, o.next + 1) ∷ o.around) (reverse more) all) same
          (subst (λ l. RestOf modules (next_of new.next) i.done l (reverse more) all) o.after r));
    }
      where
        same : next_of new.next ≡ next_of old.next
        same = ap next_of names.3

        opened_by : (os : List Open) → reverse around ≡ os → AreOpen modules ts (next_of old.next) ((o.at, o.next) ∷ o.around) os → AreOpen modules ts (next_of old.next) ((m, 0) ∷ (o.at, o.next + 1) ∷ o.around) (reverse more)
        opened_by [] e a = absurd a
        opened_by (p ∷ os) e a =
            subst (AreOpen modules ts (next_of old.next) ((m, 0) ∷ (o.at, o.next + 1) ∷ o.around)) (sym (opens.inside ∙ ap (λ l. opens.opened ∷ l) e))
            (open_more modules ts (next_of old.next) o.at o.next m o.around opens.opened p os o.entry there (inside_of p os e) (counted_by (λ h. h.kinds) (λ m. length m.hidden_kinds.items) kinds) (counted_by (λ h. h.constants) (λ m. length m.hidden_constants.items) constants) a)
          where
            counted_by : (f : Hidden → ℕ) (g : Module → ℕ) → in_all f ts m ≡ g member + sum_by (in_all f ts) (get_or (uses_of modules) m []) → in_all f ts m ≡ g opens.opened.module.now + sum_by (in_all f ts) (get_or (uses_of modules) m [])
            counted_by f g e = e ∙ ap (λ k. g k + sum_by (in_all f ts) (get_or (uses_of modules) m [])) (sym opens.of)

        whole_by : (all : List Copy) (os : List Open) → reverse around ≡ os → AreOpen modules ts (next_of old.next) ((o.at, o.next) ∷ o.around) os → RestOf modules (next_of old.next) i.done ((m, 0) ∷ (o.at, o.next + 1) ∷ o.around) (reverse more) all → AreCopiesOf modules root i.next.top i.copy all
        whole_by all [] e a r = absurd a
        whole_by all (p ∷ os) e a r =
            whole_more modules ts (next_of old.next) o.at o.next m o.around opens.opened p os o.entry there (AreCopiesOf modules root i.next.top i.copy) i.done all
            (λ every s. i.whole every (subst (λ l. RestOf modules (next_of old.next) i.done l (reverse around) every) (sym o.before) (subst (λ l. RestOf modules (next_of old.next) i.done ((o.at, o.next) ∷ o.around) l every) (sym e) s)))
            (subst (λ l. RestOf modules (next_of old.next) i.done ((m, 0) ∷ (o.at, o.next + 1) ∷ o.around) l all) (opens.inside ∙ ap (λ l. opens.opened ∷ l) e) r)

  -- a copy is left
  pub making_left : (old new : Making) (around less : List Open) (left left' : List ℕ) (m : ℕ) (fs fs' : List (ℕ × ℕ)) → IsMaking modules root ts fs
      left old around → IsClosed (uses_of modules) fs m fs' → Leaves old new around less → left' ≡ left ++ m ∷ [] → IsMaking modules root ts fs' left'
      new less
  making_left old new around less left left' m fs fs' i o leaves is = record {
    sofar = leaves.made i.sofar;
    done = i.done ++ copy_of m leaves.left ∷ [];
    members = map-append (λ c. c.member) i.done (copy_of m leaves.left ∷ []) ∙ ap (λ l. l ++ m ∷ []) i.members ∙ sym is;
    clause_list = leaves.clause_list i.sofar ∙ ap (λ l. l ++ map (in_copy (copy_of m leaves.left)) (clauses_in leaves.left.module.now)) i.clause_list ∙ sym (clauses_push modules i.done (copy_of m leaves.left) leaves.left.module.now a.0);
    next = record {
      top = i.next.top;
      at = i.next.at;
      kinds = next_by (λ m. length m.hidden_kinds.items) old.next.kinds new.next.kinds (first_of i.next.top).kinds i.next.kinds (ap (λ n. n.kinds) leaves.next);
      constants = next_by (λ m. length m.hidden_constants.items) old.next.constants new.next.constants (first_of i.next.top).constants i.next.constants (ap (λ n. n.constants) leaves.next);
    };
    open_ones = subst (λ n. AreOpen modules ts n fs' (reverse less)) (sym leaves.next) (open_less modules ts (next_of old.next) m o.next fs' leaves.left (reverse less) o.entry a);
    copy = i.copy;
    tables = tabled_more modules i.next.top i.copy i.done old new i.tables i.sofar (copy_of m leaves.left) leaves.left.module.now a.0 leaves.names;
    whole = λ all r.
        whole_less modules ts (next_of old.next) m o.next fs' leaves.left (reverse less) o.entry a (AreCopiesOf modules root i.next.top i.copy) i.done all
        (λ every s. i.whole every (subst (λ l. RestOf modules (next_of old.next) i.done l (reverse around) every) (sym o.before) (subst (λ l. RestOf modules (next_of old.next) i.done ((m, o.next) ∷ fs') l every) (sym leaves.inside) s)))
        (subst (λ n. RestOf modules n (i.done ++ copy_of m leaves.left ∷ []) fs' (reverse less) all) leaves.next r);
  }
    where
      a : AreOpen modules ts (next_of old.next) ((m, o.next) ∷ fs') (leaves.left ∷ reverse less)
      a = subst (AreOpen modules ts (next_of old.next) ((m, o.next) ∷ fs')) leaves.inside (subst (λ l. AreOpen modules ts (next_of old.next) l (reverse around)) o.before i.open_ones)

      next_by : (f : Module → ℕ) (n n' first : ℕ) → n ≡ first + sum_by (λ k. get_or (map f modules) k 0) left → n' ≡ n + f leaves.left.module.now → n' ≡ first + sum_by (λ k. get_or (map f modules) k 0) left'
      next_by f n n' first e e' =
          let s = ap (sum_by (λ k. get_or (map f modules) k 0)) is ∙ sum_by_push (λ k. get_or (map f modules) k 0) left m in
          let u = own_at f modules m leaves.left.module.now a.0 in
          omega (arith, e, e', s, u)

  pub making_ended : (left : List ℕ) (made : Making) (around : List Open) → IsMaking modules root ts [] left made around →
      (copied : List Copy) × (top : Module) × (copy : Copy) × AreCopiesOf modules root top copy copied × (map (λ c. c.member) copied ≡ left) × (map (formula_of made.bank) made.clauses.items ≡ clauses_of modules copied) × AreTabled modules top copy copied made
  making_ended left made around i = (i.done, i.next.top, i.copy, i.whole i.done refl, i.members, i.clause_list, i.tables)

-- as many clauses as the copies have
pub clauses_count : (modules : List Module) (cs : List Copy) → length (clauses_of modules cs) ≡ sum_by (λ m. get_or (map (λ m. length m.clauses.items) modules) m 0) (map (λ c. c.member) cs)
clauses_count modules [] = refl
clauses_count modules (c ∷ cs) =
    let l = length-append (map (in_copy c) (get_or (map clauses_in modules) c.member [])) (clauses_of modules cs) in
    let m = length-map (get_or (map clauses_in modules) c.member []) (in_copy c) in
    let n = of_member modules c.member in
    let r = clauses_count modules cs in
    let s = sum_by-cons (λ m. get_or (map (λ m. length m.clauses.items) modules) m 0) c.member (map (λ c. c.member) cs) in
    omega (arith, l, m, n, r, s)
  where
    of_member : (ms : List Module) (k : ℕ) → length (get_or (map clauses_in ms) k []) ≡ get_or (map (λ m. length m.clauses.items) ms) k 0
    of_member [] k = refl
    of_member (m ∷ ms) zero = length-map m.clauses.items (formula_of m.bank)
    of_member (m ∷ ms) (suc k) = of_member ms k

pub bank_grown : (m : Making) (b : Nodes) → Extends m.bank b → MakesNames m (with_bank m b)
bank_grown m b e = ((λ x. (within_later m.bank b m.clauses.items e x.0, x.1, x.2, x.3, x.4, x.5, typed_later m.bank b m.declared.items e x.6)), refl, e, refl)

-- the numbers of a copy that was entered are below the limit
pub plan_fits : (modules : List Module) (root : ℕ) (ts : List Hidden) (order : List ℕ) (top : Module) → slice_get modules root ≡ Some top → IsPlanned modules root ts order → (c : Copying) → IsCopying (uses_of modules) c → c.root ≡ root → (m : ℕ) (fs : List (ℕ × ℕ)) → frames_of c ≡ (m, 0) ∷ fs →
    Fits (own_kinds modules) (in_all (λ h. h.kinds) ts) (first_of top).kinds c.left.items m (get_or (uses_of modules) m []) × Fits (own_constants modules) (in_all (λ h. h.constants) ts) (first_of top).constants c.left.items m (get_or (uses_of modules) m [])
plan_fits modules root ts order top at plan c is of_root m fs e = (
  fits (uses_of modules) (own_kinds modules) (in_all (λ h. h.kinds) ts) (first_of top).kinds c.left.items m fs order rest plan.kinds (let z = own_at (λ m. length m.signature.kinds.items - length m.hidden_kinds.items) modules root top at in omega (arith, z, plan.kinds_fit)),
  fits (uses_of modules) (own_constants modules) (in_all (λ h. h.constants) ts) (first_of top).constants c.left.items m fs order rest plan.constants
      (let z = own_at (λ m. length m.signature.constants.items - length m.hidden_constants.items) modules root top at in omega
      (arith, z, plan.constants_fit)),
)
  where
    rest : RestOfCopies (uses_of modules) c.left.items ((m, 0) ∷ fs) order
    rest = subst (λ l. RestOfCopies (uses_of modules) c.left.items l order) e (is.each order (subst (λ k. Copies (uses_of modules) (k ∷ []) order) (sym of_root) plan.copies))
