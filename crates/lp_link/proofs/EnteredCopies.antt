-- Copies as they are entered: those of a root that can be linked have small numbers, and their tables tell of all their names.
use Rattle.std.proofs.Common.{◌≡◌, ◌∙◌, ◌+◌, ◌-◌, ◌<◌, ◌≤◌, ℕ, List, [], ◌∷◌, ◌++◌, length, get_or, Option, None, Some, ap, refl, sym, subst, arith, append_assoc}
use Rattle.std.specs.Prelude.{slice_get}
use Rattle.std.proofs.lemmas.List.{length-append, length-map, append-nil}
use Rattle.std.proofs.lemmas.Option.{slice_get-get_or}
use Rattle.lp_lemmas.specs.Each.{EachOf}
use Rattle.lp_lemmas.proofs.Each.{each_append}
use Rattle.lp_code.specs.declared.object.Object.{Object}
use Rattle.lp_code.specs.declared.object.ObjectConstant.{ObjectConstant}
use Rattle.lp_calculus.specs.Typing.{Scheme}
use Rattle.lp_code.specs.Naming.{tables_of, object_arity, scheme_in}
use Rattle.lp_link.specs.Renumbering.{moved_scheme}
use Rattle.lp_link.specs.Uses.{uses_of}
use Rattle.lp_link.specs.Ends.{hidden_kinds, hidden_constants, kind_counts, constant_counts}
use Rattle.lp_link.specs.Refusals.{CanBeLinked}
use Rattle.lp_link.specs.Linked.{Copy, Ends, kinds_of, constants_of, kind_above, constant_above, copy_of, behind, Linked, none_linked, one_linked, first_ends, map_of}
use Rattle.lp_link.specs.Names.{hidden_of, exported_of, schemes_of, moved_schemes}
use Rattle.lp_link.specs.inner.Tabled.{arities_of, hidden_arities, hidden_schemes, all_arities, all_schemes}
use Rattle.lp_link.specs.inner.ToldNames.{IsTold}
use Rattle.lp_link.specs.inner.Entering.{IsSmall, AreFirst, no_first, one_first, Entering, none_entered, one_entered, AreFew, begun, IsPlan}
use Rattle.lp_link.specs.declared.linking.Ends.{Ends as CodeEnds}
use Rattle.lp_link.proofs.Edges.{edges_of}
use Rattle.lp_link.proofs.ToldNames.{root_told, at_table, small_told, within_table}
use Rattle.lp_link.proofs.TabledCopies.{read_kind, read_constant, kind_entries, constant_entries, kinds_hidden, constants_hidden, both_kinds, arities_behind, schemes_behind, ends_behind, own_count, copies_linked, told_below}

pub each_parts : {A : Type 0} (P : A → Type 0) (xs ys : List A) → EachOf P (xs ++ ys) → EachOf P xs × EachOf P ys
each_parts P [] ys h = (tt, h)
each_parts P (x ∷ xs) ys h = let more = each_parts P xs ys h.1 in ((h.0, more.0), more.1)

pub each_by : {A : Type 0} (P Q : A → Type 0) → ((x : A) → P x → Q x) → (xs : List A) → EachOf P xs → EachOf Q xs
each_by P Q f [] h = tt
each_by P Q f (x ∷ xs) h = (f x h.0, each_by P Q f xs h.1)

module _ (os : List Object) where
  -- copies with small numbers can be entered
  pub entered : (above : Option Copy) (entries : List ℕ) (begin end : Ends) (all : List Copy) → Linked os above entries begin all end → EachOf IsSmall
      all → (fs : List Ends) × Entering os above entries begin fs all end
  entered above entries begin end all (none_linked a e) small = ([], none_entered a e)
  entered above entries begin end all (one_linked a m rest o b mid e below others l there inner more is) small =
      let parts = each_parts IsSmall below (copy_of above o mid ∷ others) (subst (EachOf IsSmall) is small) in
      let (xs, x) = entered (Some (copy_of above o mid)) (get_or (uses_of os) m []) begin mid below inner parts.0 in
      let (ys, y) = entered above rest (behind o mid) end others more parts.1.1 in
      (mid ∷ (xs ++ ys), one_entered above m rest o begin mid end xs ys (mid ∷ (xs ++ ys)) below others all there parts.1.0 x y refl is)

  -- with these first numbers
  pub first_entered : (above : Option Copy) (entries : List ℕ) (begin end : Ends) (fs : List Ends) (all : List Copy) → Entering os above entries begin
      fs all end → AreFirst (uses_of os) (kind_counts os) (constant_counts os) entries begin fs end
  first_entered above entries begin end fs all (none_entered a e) = no_first e
  first_entered above entries begin end fs all (one_entered a m rest o b mid e inner more firsts below others l there small x y first is) =
      let k = own_count os (λ o. hidden_kinds o.kinds.items) os m o there in
      let c = own_count os (λ o. hidden_constants o.constants.items) os m o there in
      one_first m rest begin mid end inner more fs (first_entered (Some (copy_of above o mid)) (get_or (uses_of os) m []) begin mid inner below x)
      (subst (λ n. AreFirst (uses_of os) (kind_counts os) (constant_counts os) rest n more end) (λ i. record { kinds = mid.kinds + sym k i; constants = mid.constants + sym c i })
      (first_entered above rest (behind o mid) end more others y)) first

  nothing : (above : Option Copy) (entries : List ℕ) (begin end : Ends) (all : List Copy) → entries ≡ [] → Linked os above entries begin all end → (all ≡ []) × (end ≡ begin)
  nothing above entries begin end all q (none_linked a e) = (refl, refl)
  nothing above entries begin end all q (one_linked a m rest o b mid e below others l there inner more is) = absurd (let n = ap length q in omega (arith, n))

  abbrev head_of : ℕ → List ℕ → ℕ
  head_of d [] = d
  head_of d (x ∷ xs) = x

  abbrev tail_of : List ℕ → List ℕ
  tail_of [] = []
  tail_of (x ∷ xs) = xs

  root_parts : (root : ℕ) (entries : List ℕ) (begin end : Ends) (all : List Copy) → entries ≡ root ∷ [] → Linked os None entries begin all end →
      (o : Object) × (mid : Ends) × (below : List Copy) × (slice_get os root ≡ Some o)
      × Linked os (Some (copy_of None o mid)) (get_or (uses_of os) root []) begin below mid × (all ≡ below ++ copy_of None o mid ∷ []) × (end ≡ behind o mid)
  root_parts root entries begin end all q (none_linked a e) = absurd (let n = ap length q in omega (arith, n))
  root_parts root entries begin end all q (one_linked a m rest o b mid e below others l there inner more is) =
      let at : m ≡ root = ap (head_of m) q in
      let none = nothing None rest (behind o mid) end others (ap tail_of q) more in (
        o,
        mid,
        below,
        subst (λ k. slice_get os k ≡ Some o) at there,
        subst (λ k. Linked os (Some (copy_of None o mid)) (get_or (uses_of os) k []) begin below mid) at inner,
        is ∙ ap (λ x. below ++ copy_of None o mid ∷ x) none.0,
        none.1,
      )

-- what is known of the copies of a root
pub record ArePlanned (os : List Object) (root : ℕ) (begin end : Ends) (copies : List Copy) : Type 0 where
  pub root_copy : Copy
  pub below : List Copy
  pub parts : copies ≡ below ++ root_copy ∷ []
  pub few : AreFew end
  pub kinds_few : 8 + length (all_arities root_copy copies) ≤ 1048576
  pub constants_few : 32 + length (all_schemes root_copy copies) ≤ 1048576
  pub told : EachOf (IsTold (tables_of (all_arities root_copy copies) (all_schemes root_copy copies))) copies
  pub firsts : List Ends
  pub are_first : AreFirst (uses_of os) (kind_counts os) (constant_counts os) (root ∷ []) begin firsts end
  pub plan : IsPlan os root firsts root_copy below

module _ (os : List Object) (root : ℕ) (can : CanBeLinked os root) (o : Object) (mid end : Ends) (copies below : List Copy)
    (there : slice_get os root ≡ Some o) (d : Linked os None (root ∷ []) (first_ends o) copies end)
    (inner : Linked os (Some (copy_of None o mid)) (get_or (uses_of os) root []) (first_ends o) below mid) (is : copies ≡ below ++ copy_of None o mid ∷ []) (ended : end ≡ behind o mid) where
  abbrev c : Copy
  c = copy_of None o mid

  abbrev ks : List ℕ
  ks = all_arities c copies

  abbrev cs : List Scheme
  cs = all_schemes c copies

  abbrev ek : List ℕ
  ek = exported_of (kinds_of o) (arities_of o)

  abbrev ec : List Scheme
  ec = exported_of (constants_of o) (moved_schemes c)

  abbrev hk : List ℕ
  hk = hidden_of (kinds_of o) (arities_of o)

  abbrev hc : List Scheme
  hc = hidden_of (constants_of o) (moved_schemes c)

  few : AreFew end
  few =
      let (ms, all, k, n) = copies_linked os None (root ∷ []) (first_ends o) end copies d in
      let (a, b) = can.names ms all in
      let bk = own_count os (λ o. length o.kinds.items - hidden_kinds o.kinds.items) os root o there in
      let bc = own_count os (λ o. length o.constants.items - hidden_constants o.constants.items) os root o there in
      (omega (arith, k, a, bk), omega (arith, n, b, bc))

  exported_kinds : length ek ≡ length o.kinds.items - hidden_kinds o.kinds.items
  exported_kinds =
      let a = both_kinds (kinds_of o) (arities_of o) (kind_entries o) in
      let b = length-map o.kinds.items object_arity in
      let h = kinds_hidden o in
      omega (arith, a, b, h)

  exported_constants : length ec ≡ length o.constants.items - hidden_constants o.constants.items
  exported_constants =
      let a = both_kinds (constants_of o) (moved_schemes c) (constant_entries c) in
      let b = length-map (schemes_of o) (moved_scheme (map_of 0 c)) in
      let n = length-map o.constants.items (λ (d : ObjectConstant). scheme_in o.bank d.type_vars d.scheme.0) in
      let h = constants_hidden c in
      omega (arith, a, b, n, h)

  long_kinds : 8 + length ks ≤ 1048576
  long_kinds =
      let e = ends_behind os None (root ∷ []) (first_ends o) end copies d in
      let n = length-append ek (hidden_arities copies) in
      let x = exported_kinds in
      let f = few.0 in
      let y = e.0 in
      omega (arith, n, x, f, y)

  long_constants : 32 + length cs ≤ 1048576
  long_constants =
      let e = ends_behind os None (root ∷ []) (first_ends o) end copies d in
      let n = length-append ec (hidden_schemes copies) in
      let x = exported_constants in
      let f = few.1 in
      let y = e.1 in
      omega (arith, n, x, f, y)

  kinds_are : ks ≡ ek ++ (hidden_arities below ++ (hk ++ []))
  kinds_are = ap (λ l. ek ++ l) (ap hidden_arities is ∙ arities_behind below (c ∷ []))

  constants_are : cs ≡ ec ++ (hidden_schemes below ++ (hc ++ []))
  constants_are = ap (λ l. ec ++ l) (ap hidden_schemes is ∙ schemes_behind below (c ∷ []))

  mid_is : (mid.kinds ≡ 8 + length (ek ++ hidden_arities below)) × (mid.constants ≡ 32 + length (ec ++ hidden_schemes below))
  mid_is =
      let e = ends_behind os (Some c) (get_or (uses_of os) root []) (first_ends o) mid below inner in
      let k = length-append ek (hidden_arities below) in
      let n = length-append ec (hidden_schemes below) in
      let x = exported_kinds in
      let y = exported_constants in
      let ez = e.0 in
      let ew = e.1 in
      (omega (arith, k, x, ez), omega (arith, n, y, ew))

  root_is_told : IsTold (tables_of ks cs) c
  root_is_told =
      let (mk, mc) = mid_is in
      let xk = exported_kinds in
      record {
        kinds = root_told 8 (tables_of ks cs).kinds (kind_above None) (λ name. refl) 8 mid.kinds (kinds_of o) (arities_of o) (kind_entries o) (omega arith) (omega (arith, mk))
            (at_table 8 (tables_of ks cs).kinds ks (read_kind ks cs) [] ek (hidden_arities copies) refl 8 (omega arith))
            (at_table 8 (tables_of ks cs).kinds ks (read_kind ks cs) (ek ++ hidden_arities below) hk [] (kinds_are ∙ sym (append_assoc ek (hidden_arities below) (hk ++ []))) mid.kinds mk);
        constants = root_told 32 (tables_of ks cs).constants (constant_above None) (λ name. refl) 32 mid.constants (constants_of o) (moved_schemes c)
            (constant_entries c) (omega arith) (omega (arith, mc))
            (at_table 32 (tables_of ks cs).constants cs (read_constant ks cs) [] ec (hidden_schemes copies) refl 32 (omega arith))
            (at_table 32 (tables_of ks cs).constants cs (read_constant ks cs) (ec ++ hidden_schemes below) hc []
            (constants_are ∙ sym (append_assoc ec (hidden_schemes below) (hc ++ []))) mid.constants mc);
      }

  all_told : EachOf (IsTold (tables_of ks cs)) copies
  all_told =
      let (ms, all, k, n) = copies_linked os (Some c) (get_or (uses_of os) root []) (first_ends o) mid below inner in
      let (edges, e) = edges_of (uses_of os) root (get_or (uses_of os) root []) ms all in
      let xk = exported_kinds in
      let xc = exported_constants in
      subst (EachOf (IsTold (tables_of ks cs))) (sym is) (each_append (IsTold (tables_of ks cs)) below (c ∷ [])
      (told_below os ks cs root c there root_is_told (get_or (uses_of os) root []) (first_ends o) mid below edges inner e (can.same edges e)
      ek (hk ++ []) kinds_are (omega (arith, xk)) ec (hc ++ []) constants_are (omega (arith, xc)))
      (root_is_told, tt))

  told_small : (x : Copy) → IsTold (tables_of ks cs) x → IsSmall x
  told_small x told =
      let lk = long_kinds in
      let lc = long_constants in
      record {
        kinds = small_told 8 (tables_of ks cs).kinds 4294967295 (λ n v l e. let w = within_table 8 (tables_of ks cs).kinds ks (read_kind ks cs) n v l
            e in omega (arith, w, lk)) x.kinds (arities_of x.object) told.kinds;
        constants = small_told 32 (tables_of ks cs).constants 4294967295 (λ n v l e. let w = within_table 32 (tables_of ks cs).constants cs
            (read_constant ks cs) n v l e in omega (arith, w, lc)) x.constants (moved_schemes x) told.constants;
      }

  pub planned : ArePlanned os root (first_ends o) end copies
  planned =
      let small = each_by (IsTold (tables_of ks cs)) IsSmall told_small copies all_told in
      let parts = each_parts IsSmall below (c ∷ []) (subst (EachOf IsSmall) is small) in
      let (gs, y) = entered os (Some c) (get_or (uses_of os) root []) (first_ends o) mid below inner parts.0 in
      let one = one_entered None root [] o (first_ends o) mid (behind o mid) gs [] (mid ∷ gs) below [] copies there parts.1.0 y
      (none_entered None (behind o mid)) (ap (λ l. mid ∷ l) (sym (append-nil gs))) is in
      record {
        root_copy = c;
        below = below;
        parts = is;
        few = few;
        kinds_few = long_kinds;
        constants_few = long_constants;
        told = all_told;
        firsts = mid ∷ gs;
        are_first = subst (AreFirst (uses_of os) (kind_counts os) (constant_counts os) (root ∷ []) (first_ends o) (mid ∷ gs)) (sym ended)
            (first_entered os None (root ∷ []) (first_ends o) (behind o mid) (mid ∷ gs) copies one);
        plan = record { object = o; there = there; mid = mid; is = refl; small = parts.1.0; inner = gs; first = refl; entering = y };
      }

-- the copies of a root that can be linked
pub copies_planned : (os : List Object) (root : ℕ) → CanBeLinked os root → (o : Object) (end : Ends) (copies : List Copy) → slice_get os root ≡ Some o
    → Linked os None (root ∷ []) (first_ends o) copies end → ArePlanned os root (first_ends o) end copies
copies_planned os root can o end copies at d =
    let (p, mid, below, there, inner, is, e) = root_parts os root (root ∷ []) (first_ends o) end copies refl d in
    let same : p ≡ o = (let z : Some p ≡ Some o = sym there ∙ at in cc) in
    planned os root can o mid end copies below at d
    (subst (λ q. Linked os (Some (copy_of None q mid)) (get_or (uses_of os) root []) (first_ends o) below mid) same inner)
    (is ∙ ap (λ q. below ++ copy_of None q mid ∷ []) same)
    (e ∙ ap (λ q. behind q mid) same)

-- what the code tells of the first numbers
pub begins_at : (os : List Object) (root : ℕ) (top o : Object) (b : CodeEnds) → root < length os → top ≡ get_or os root top → slice_get os root ≡ Some
    o → b.kind ≡ 8 + (length top.kinds.items - hidden_kinds top.kinds.items)
    → b.constant ≡ 32 + (length top.constants.items - hidden_constants top.constants.items) → begun b ≡ first_ends o
begins_at os root top o b l is at ek ec =
    let same : top ≡ o = (let z : Some top ≡ Some o = ap Some is ∙ sym (slice_get-get_or os root top l) ∙ at in cc) in
    (λ i. record { kinds = ek i; constants = ec i }) ∙ ap first_ends same

pub firsts_told : (os : List Object) (outs : List (List ℕ)) (ks cs : List ℕ) (root : ℕ) (b : CodeEnds) (o : Object) (fs : List Ends) → outs ≡ uses_of
    os → ks ≡ kind_counts os → cs ≡ constant_counts os → begun b ≡ first_ends o
    → ((all : List Ends) (end : Ends) → AreFirst outs ks cs (root ∷ []) (begun b) all end → AreFew end → fs ≡ all)
    → (all : List Ends) (end : Ends) → AreFirst (uses_of os) (kind_counts os) (constant_counts os) (root ∷ []) (first_ends o) all end → AreFew end → fs ≡ all
firsts_told os outs ks cs root b o fs eu ek ec eb told = λ all end x few.
    told all end
    (subst (λ u. AreFirst u ks cs (root ∷ []) (begun b) all end) (sym eu)
    (subst (λ k. AreFirst (uses_of os) k cs (root ∷ []) (begun b) all end) (sym ek)
    (subst (λ k. AreFirst (uses_of os) (kind_counts os) k (root ∷ []) (begun b) all end) (sym ec)
    (subst (λ e. AreFirst (uses_of os) (kind_counts os) (constant_counts os) (root ∷ []) e all end) (sym eb) x))))
    few
