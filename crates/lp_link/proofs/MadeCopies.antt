-- An image in the making: its root is opened, copies are entered and left, and the last one is.
use Rattle.std.proofs.Common.{◌≡◌, ◌∙◌, ◌+◌, ◌<◌, ℕ, List, [], ◌∷◌, ◌++◌, length, map, drop, reverse, get_or, Option, None, Some, ap, refl, sym, subst, arith, append_assoc}
use Rattle.std.specs.Prelude.{slice_get}
use Rattle.std.proofs.lemmas.List.{append-nil, length-append}
use Rattle.lp_lemmas.specs.Each.{EachOf}
use Rattle.lp_lemmas.proofs.Lists.{reverse_pushed, get_map}
use Rattle.std.proofs.lemmas.Option.{slice_get-get_or}
use Rattle.lp_calculus.specs.Typing.{Scheme}
use Rattle.lp_copies.specs.Copies.{IsOpened, IsClosed}
use Rattle.lp_code.specs.declared.object.Object.{Object}
use Rattle.lp_lemmas.proofs.Elements.{All_empty}
use Rattle.lp_code.specs.declared.image.ImageConstant.{ImageConstant}
use Rattle.lp_code.specs.Naming.{image_arity, scheme_in}
use Rattle.lp_code.specs.declared.record.Record.{Record}
use Rattle.lp_link.specs.declared.image.Making.{Making}
use Rattle.lp_link.specs.declared.names.Open.{Open}
use Rattle.lp_link.specs.declared.names.Firsts.{Firsts}
use Rattle.lp_link.specs.declared.places.Member.{Member}
use Rattle.lp_link.specs.Uses.{uses_of}
use Rattle.lp_link.specs.Renumbering.{AllRecordsMoved}
use Rattle.lp_link.specs.inner.Naming.{AreNumbers}
use Rattle.lp_link.specs.Linked.{Copy, Ends, kinds_of, constants_of, kind_above, constant_above, copy_of, behind, first_ends, map_of, records_of}
use Rattle.lp_link.specs.inner.Parts.{AllHaveRoom}
use Rattle.lp_link.specs.Names.{as_global, exported_kind_rows, exported_constant_rows, hidden_kind_rows, hidden_constant_rows, hidden_of, exported_of, moved_schemes}
use Rattle.lp_link.specs.inner.Tabled.{arities_of, hidden_arities, hidden_schemes, made_arities, made_schemes, AreBanked, AddsTables, AreTabled, AreRecords, counted, IsBegun, IsLeft, IsMade, IsComing}
use Rattle.lp_link.specs.inner.Entering.{IsSmall, Entering, none_entered, one_entered, IsPlan, AreToCome, open_copy, copy_inside, ends_of, IsEntered}
use Rattle.lp_link.specs.inner.Named.{count_in, AddsRows, AddsHidden}
use Rattle.lp_link.proofs.NamedTables.{named_push, root_named}
use Rattle.lp_link.proofs.TabledCopies.{arities_behind, schemes_behind}

-- tables

pub tables_then : (a b c : Making) (ks ls : List ℕ) (ss ts : List Scheme) → AddsTables a b ks ss → AddsTables b c ls ts → AddsTables a c (ks ++ ls) (ss ++ ts)
tables_then a b c ks ls ss ts x y = record {
  kinds = y.kinds ∙ ap (λ l. l ++ ls) x.kinds ∙ append_assoc (made_arities a) ks ls;
  constants = λ h. y.constants (x.banked h) ∙ ap (λ l. l ++ ts) (x.constants h) ∙ append_assoc (made_schemes a) ss ts;
  banked = λ h. y.banked (x.banked h);
}

pub tables_both : (a b c : Making) (ks : List ℕ) (ss : List Scheme) → AddsTables a b ks [] → AddsTables b c [] ss → AddsTables a c ks ss
tables_both a b c ks ss x y = subst (λ l. AddsTables a c l ss) (append-nil ks) (tables_then a b c ks [] [] ss x y)

tables_push : (root c : Copy) (done : List Copy) (old new : Making) → AreTabled root done old → AddsTables old new
    (hidden_of (kinds_of c.object) (arities_of c.object)) (hidden_of (constants_of c.object) (moved_schemes c))
    → AddsHidden old new (hidden_kind_rows c.object) (hidden_constant_rows c.object) → AreTabled root (done ++ c ∷ []) new
tables_push root c done old new t adds names = record {
  kinds = adds.kinds ∙ ap (λ l. l ++ hk) t.kinds ∙ append_assoc ek (hidden_arities done) hk ∙ ap (λ l. ek ++ l)
      (ap (λ l. hidden_arities done ++ l) (sym (append-nil hk)) ∙ sym (arities_behind done (c ∷ [])));
  constants = adds.constants t.banked ∙ ap (λ l. l ++ hc) t.constants ∙ append_assoc ec (hidden_schemes done) hc ∙ ap (λ l. ec ++ l)
      (ap (λ l. hidden_schemes done ++ l) (sym (append-nil hc)) ∙ sym (schemes_behind done (c ∷ [])));
  banked = adds.banked t.banked;
  names = named_push root c done old new t.names names;
}
  where
    hk : List ℕ
    hk = hidden_of (kinds_of c.object) (arities_of c.object)

    ek : List ℕ
    ek = exported_of (kinds_of root.object) (arities_of root.object)

    hc : List Scheme
    hc = hidden_of (constants_of c.object) (moved_schemes c)

    ec : List Scheme
    ec = exported_of (constants_of root.object) (moved_schemes root)

-- records

appended_records : (xs ys zs : List Record) → (xs ++ ys) ++ zs ≡ xs ++ (ys ++ zs)
appended_records [] ys zs = refl
appended_records (x ∷ xs) ys zs = ap (λ l. x ∷ l) (appended_records xs ys zs)

records_push : (n k : ℕ) (cs : List Copy) (c : Copy) (rs own now : List Record) → AreRecords n cs rs → now ≡ rs ++ own → length own ≡ length (records_of c) → k ≡ n + length rs
    → (EachOf (λ (r : Record). AllHaveRoom k r.code.items) (records_of c) → AllRecordsMoved (map_of k c) k (records_of c) own) → AreRecords n (cs ++ c ∷ []) now
records_push n k [] c rs own now none is count at moved =
    let z : k ≡ n = (let l = ap length none in omega (arith, at, l)) in (
      own,
      [],
      is ∙ ap (λ l. l ++ own) none ∙ sym (append-nil own),
      count,
      subst (λ i. EachOf (λ (r : Record). AllHaveRoom i r.code.items) (records_of c) → AllRecordsMoved (map_of i c) i (records_of c) own) z moved,
      refl,
    )
records_push n k (d ∷ cs) c rs own now (first, more, e, l, m, rest) is count at moved =
    let h = ap length e in
    let a = length-append first more in (
      first,
      more ++ own,
      is ∙ ap (λ l. l ++ own) e ∙ appended_records first more own,
      l,
      m,
      records_push (n + length (records_of d)) k cs c more own (more ++ own) rest refl count (omega (arith, at, h, a, l)) moved,
    )

-- copies

none_left : (os : List Object) (above : Option Copy) (entries : List ℕ) (begin end : Ends) (fs : List Ends) (all : List Copy) → entries ≡ [] →
    Entering os above entries begin fs all end → (fs ≡ []) × (all ≡ []) × (end ≡ begin)
none_left os above entries begin end fs all q (none_entered a e) = (refl, refl, refl)
none_left os above entries begin end fs all q (one_entered a m rest o b mid e inner more firsts below others l there small x y first is) = absurd (let n = ap length q in omega (arith, n))

abbrev head_of : ℕ → List ℕ → ℕ
head_of d [] = d
head_of d (x ∷ xs) = x

abbrev tail_of : List ℕ → List ℕ
tail_of [] = []
tail_of (x ∷ xs) = xs

next_entered : (os : List Object) (above : Option Copy) (m : ℕ) (rest entries : List ℕ) (o : Object) (begin end : Ends) (fs : List Ends)
    (all : List Copy) → entries ≡ m ∷ rest → slice_get os m ≡ Some o → Entering os above entries begin fs all end
    → (mid : Ends) × (inner : List Ends) × (more : List Ends) × (below : List Copy) × (others : List Copy) × IsSmall (copy_of above o mid) × Entering
    os (Some (copy_of above o mid)) (get_or (uses_of os) m []) begin inner below mid
    × Entering os above rest (behind o mid) more others end × (fs ≡ mid ∷ (inner ++ more)) × (all ≡ below ++ copy_of above o mid ∷ others)
next_entered os above m rest entries o begin end fs all q at (none_entered a e) = absurd (let n = ap length q in omega (arith, n))
next_entered os above m rest entries o begin end fs all q at (one_entered a k r p b mid e inner more firsts below others l there small x y first is) =
    let here : k ≡ m = ap (head_of k) q in
    let on : r ≡ rest = ap tail_of q in
    let same : p ≡ o = (let z : Some p ≡ Some o = sym there ∙ ap (slice_get os) here ∙ at in cc) in (
      mid,
      inner,
      more,
      below,
      others,
      subst (λ p. IsSmall (copy_of above p mid)) same small,
      subst (λ p. Entering os (Some (copy_of above p mid)) (get_or (uses_of os) m []) begin inner below mid) same
          (subst (λ i. Entering os (Some (copy_of above p mid)) (get_or (uses_of os) i []) begin inner below mid) here x),
      subst (λ p. Entering os above rest (behind p mid) more others end) same (subst (λ i. Entering os above i (behind p mid) more others end) on y),
      first,
      is ∙ ap (λ p. below ++ copy_of above p mid ∷ others) same,
    )

module _ (os : List Object) where
  come_opens : (now : Ends) (at i m : ℕ) (fs : List (ℕ × ℕ)) (c : Copy) (cs : List Copy) (firsts : List Ends) (done all : List Copy) (o : Object) →
      drop i (get_or (uses_of os) at []) ≡ m ∷ drop (i + 1) (get_or (uses_of os) at []) → slice_get os m ≡ Some o
      → AreToCome os now ((at, i) ∷ fs) (c ∷ cs) firsts done all
      → (mid : Ends) × (more : List Ends) × (firsts ≡ mid ∷ more) × IsSmall (copy_of (Some c) o mid) × AreToCome os now ((m, 0) ∷ (at, i + 1) ∷ fs) (copy_of (Some c) o mid ∷ c ∷ cs) more done all
  come_opens now at i m fs c cs firsts done all o next there (inner, behind_them, below, mid, is, x, rest) =
      let (mid1, inner1, more1, below1, others1, small, a, b, first, are) = next_entered os (Some c) m (drop (i + 1) (get_or (uses_of os) at []))
      (drop i (get_or (uses_of os) at [])) o now mid inner below next there x in
      let d = copy_of (Some c) o mid1 in (
        mid1,
        inner1 ++ (more1 ++ behind_them),
        is ∙ ap (λ l. l ++ behind_them) first ∙ ap (λ l. mid1 ∷ l) (append_assoc inner1 more1 behind_them),
        small,
        (
          inner1,
          more1 ++ behind_them,
          below1,
          mid1,
          refl,
          a,
          (
            more1,
            behind_them,
            others1,
            mid,
            refl,
            b,
            subst (λ l. AreToCome os (behind c.object mid) fs cs behind_them l all) (ap (λ l. done ++ (l ++ c ∷ [])) are ∙ grouped done below1 others1 d c) rest,
          ),
        ),
      )
    where
      grouped : (xs ys zs : List Copy) (d c : Copy) → xs ++ ((ys ++ d ∷ zs) ++ c ∷ []) ≡ (xs ++ (ys ++ d ∷ [])) ++ (zs ++ c ∷ [])
      grouped xs ys zs d c = simp append_assoc

  come_closes : (now : Ends) (m i : ℕ) (fs : List (ℕ × ℕ)) (c : Copy) (cs : List Copy) (firsts : List Ends) (done all : List Copy) → drop i
      (get_or (uses_of os) m []) ≡ [] → AreToCome os now ((m, i) ∷ fs) (c ∷ cs) firsts done all
      → (later : Ends) × AreToCome os later fs cs firsts (done ++ c ∷ []) all
  come_closes now m i fs c cs firsts done all none (inner, more, below, mid, is, x, rest) =
      let (no_first, no_copy, same) = none_left os (Some c) (drop i (get_or (uses_of os) m [])) now mid inner below none x in (
        behind c.object mid,
        subst (λ l. AreToCome os (behind c.object mid) fs cs l (done ++ c ∷ []) all) (sym (is ∙ ap (λ l. l ++ more) no_first))
            (subst (λ l. AreToCome os (behind c.object mid) fs cs more (done ++ (l ++ c ∷ [])) all) no_copy rest),
      )

  come_ends : (now : Ends) (cs : List Copy) (firsts : List Ends) (done all : List Copy) → AreToCome os now [] cs firsts done all → done ≡ all
  come_ends now [] firsts done all e = e
  come_ends now (c ∷ cs) firsts done all a = absurd a

  -- the root is open
  pub coming_begins : (root : ℕ) (c : Copy) (below : List Copy) (m : Member) (f : Firsts) (making : Making) (around : List Open)
      (frames : List (ℕ × ℕ)) (records : List Record) (firsts coming : List Ends) → IsPlan os root firsts c below
      → slice_get os root ≡ Some m.object.now → ((g : Ends) (gs : List Ends) → firsts ≡ g ∷ gs → (ends_of f ≡ g) × (coming ≡ gs)) → IsBegun m f making around → frames ≡ (root, 0) ∷ [] → records ≡ []
      → IsComing os frames around coming c below making records
  coming_begins root c below m f making around frames records firsts coming plan there told begun ef er = record {
    now = first_ends plan.object;
    done = [];
    to_come = subst (λ fs. AreToCome os (first_ends plan.object) fs (map open_copy (reverse around)) coming [] (below ++ c ∷ [])) (sym ef)
        (subst (λ os'. AreToCome os (first_ends plan.object) ((root, 0) ∷ []) (map open_copy os') coming [] (below ++ c ∷ [])) (sym begun.inside)
        (subst (λ x. AreToCome os (first_ends plan.object) ((root, 0) ∷ []) (x ∷ []) coming [] (below ++ c ∷ [])) (sym root_is)
        (subst (λ l. AreToCome os (first_ends plan.object) ((root, 0) ∷ []) (c ∷ []) l [] (below ++ c ∷ [])) (sym next.1)
        (plan.inner, [], below, plan.mid, sym (append-nil plan.inner), plan.entering, refl))));
    tables = subst (λ x. AreTabled x [] making) root_is begun.tables;
    records = er;
  }
    where
      next : (ends_of f ≡ plan.mid) × (coming ≡ plan.inner)
      next = told plan.mid plan.inner plan.first

      same : plan.object ≡ m.object.now
      same = let z : Some plan.object ≡ Some m.object.now = sym plan.there ∙ there in cc

      copy_is : c ≡ copy_of None m.object.now (ends_of f)
      copy_is = plan.is ∙ (λ i. copy_of None (same i) (sym next.0 i))

      root_is : open_copy begun.opened ≡ c
      root_is = begun.numbers (subst IsSmall copy_is plan.small) ∙ sym copy_is

  module _ (coming : List Ends) (c : Copy) (below : List Copy) (making : Making) (records : List Record) where
    -- a copy is entered
    pub coming_enters : (fs fs' : List (ℕ × ℕ)) (around new : List Open) (coming' : List Ends) (m : ℕ) (member : Member) (f : Firsts) → IsOpened
        (uses_of os) fs m fs' → slice_get os m ≡ Some member.object.now
        → ((g : Ends) (gs : List Ends) → coming ≡ g ∷ gs → (ends_of f ≡ g) × (coming' ≡ gs)) → IsEntered around new member f → IsComing os fs around
        coming c below making records → IsComing os fs' new coming' c below making records
    coming_enters fs fs' around new coming' m member f opened there told entered now = record {
      now = now.now;
      done = now.done;
      to_come = by (reverse around) refl (subst (λ fs. AreToCome os now.now fs (map open_copy (reverse around)) coming now.done (below ++ c ∷ [])) opened.before now.to_come);
      tables = now.tables;
      records = now.records;
    }
      where
        by : (rs : List Open) → reverse around ≡ rs → AreToCome os now.now ((opened.at, opened.next) ∷ opened.around) (map open_copy (reverse around))
            coming now.done (below ++ c ∷ []) → AreToCome os now.now fs' (map open_copy (reverse new)) coming' now.done (below ++ c ∷ [])
        by [] e a = absurd (subst (λ rs. AreToCome os now.now ((opened.at, opened.next) ∷ opened.around) (map open_copy rs) coming now.done (below ++ c ∷ [])) e a)
        by (p ∷ ps) e a =
            let (mid, more, first, small, next) = come_opens now.now opened.at opened.next m opened.around (open_copy p) (map open_copy ps) coming
            now.done (below ++ c ∷ []) member.object.now opened.entry there
            (subst (λ rs. AreToCome os now.now ((opened.at, opened.next) ∷ opened.around) (map open_copy rs) coming now.done (below ++ c ∷ [])) e a) in
            let (ends, left) = told mid more first in
            let copy_is : copy_of (copy_inside (reverse around)) member.object.now (ends_of f) ≡ copy_of (Some (open_copy p)) member.object.now
            mid = (λ i. copy_of (copy_inside (e i)) member.object.now (ends i)) in
            let here : open_copy entered.opened ≡ copy_of (Some (open_copy p)) member.object.now mid = entered.numbers (subst IsSmall (sym copy_is) small) ∙ copy_is in
            let inside : map open_copy (reverse new) ≡ copy_of (Some (open_copy p)) member.object.now mid ∷ open_copy p ∷ map open_copy ps = ap
            (map open_copy) entered.inside ∙ (λ i. here i ∷ map open_copy (e i)) in
            subst (λ fs. AreToCome os now.now fs (map open_copy (reverse new)) coming' now.done (below ++ c ∷ [])) (sym opened.after)
            (subst (λ l. AreToCome os now.now ((m, 0) ∷ (opened.at, opened.next + 1) ∷ opened.around) l coming' now.done (below ++ c ∷ [])) (sym inside)
            (subst (λ l. AreToCome os now.now ((m, 0) ∷ (opened.at, opened.next + 1) ∷ opened.around)
            (copy_of (Some (open_copy p)) member.object.now mid ∷ open_copy p ∷ map open_copy ps) l now.done (below ++ c ∷ [])) (sym left) next))

    -- a copy is left
    pub coming_leaves : (fs fs' : List (ℕ × ℕ)) (around less : List Open) (m : ℕ) (making' : Making) (records' : List Record) → IsClosed (uses_of os) fs m fs' → length records < 4294967296
        → ((o : Open) (rest : List Open) → reverse around ≡ o ∷ rest → (reverse less ≡ rest) × IsLeft making making' records records' (open_copy o)) →
        IsComing os fs around coming c below making records → IsComing os fs' less coming c below making' records'
    coming_leaves fs fs' around less m making' records' closed few told now = by (reverse around) refl
        (subst (λ fs. AreToCome os now.now fs (map open_copy (reverse around)) coming now.done (below ++ c ∷ [])) closed.before now.to_come)
      where
        by : (rs : List Open) → reverse around ≡ rs → AreToCome os now.now ((m, closed.next) ∷ fs') (map open_copy (reverse around)) coming now.done
            (below ++ c ∷ []) → IsComing os fs' less coming c below making' records'
        by [] e a = absurd (subst (λ rs. AreToCome os now.now ((m, closed.next) ∷ fs') (map open_copy rs) coming now.done (below ++ c ∷ [])) e a)
        by (p ∷ ps) e a =
            let (inside, left) = told p ps e in
            let (own, is, moved) = left.moved in
            let count = left.count in
            let long = ap length is ∙ length-append records own in
            let at : counted (length records) ≡ length records = omega (arith, few) in
            let (later, next) = come_closes now.now m closed.next fs' (open_copy p) (map open_copy ps) coming now.done (below ++ c ∷ []) closed.entry
            (subst (λ rs. AreToCome os now.now ((m, closed.next) ∷ fs') (map open_copy rs) coming now.done (below ++ c ∷ [])) e a) in
            record {
              now = later;
              done = now.done ++ open_copy p ∷ [];
              to_come = subst (λ rs. AreToCome os later fs' (map open_copy rs) coming (now.done ++ open_copy p ∷ []) (below ++ c ∷ [])) (sym inside) next;
              tables = tables_push c (open_copy p) now.done making making' now.tables left.tables left.names;
              records = records_push 0 (counted (length records)) now.done (open_copy p) records own records' now.records is (omega (arith, long, count)) (omega (arith, at)) moved;
            }

    -- all copies were left
    pub coming_ends : (around : List Open) → IsComing os [] around coming c below making records → IsMade c below making records
    coming_ends around now =
        let all = come_ends now.now (map open_copy (reverse around)) coming now.done (below ++ c ∷ []) now.to_come in
        record { tables = subst (λ l. AreTabled c l making) all now.tables; records = subst (λ l. AreRecords 0 l records) all now.records }

-- the tables of a root before any copy
pub root_tabled : (root : Copy) (old new : Making) → old.kinds.items ≡ [] → old.constants.items ≡ []
    → ((w : List ℕ) → (count_in old.hidden_kinds w ≡ 0) × (count_in old.hidden_constants w ≡ 0))
    → AddsTables old new (exported_of (kinds_of root.object) (arities_of root.object)) (exported_of (constants_of root.object) (moved_schemes root))
    → AddsRows old new (map as_global (exported_kind_rows root.object)) (map as_global (exported_constant_rows root.object)) → AreTabled root [] new
root_tabled root old new ek ec none adds rows = record {
  kinds = adds.kinds ∙ ap (λ l. map image_arity l ++ exported_of (kinds_of root.object) (arities_of root.object)) ek ∙ sym (append-nil (exported_of (kinds_of root.object) (arities_of root.object)));
  constants = adds.constants banked ∙ ap (λ l. map (λ (c : ImageConstant). scheme_in old.bank c.type_vars c.scheme.0) l ++ exported_of (constants_of root.object) (moved_schemes root)) ec
      ∙ sym (append-nil (exported_of (constants_of root.object) (moved_schemes root)));
  banked = adds.banked banked;
  names = root_named root old new ek ec none rows;
}
  where
    banked : AreBanked old
    banked = All_empty (λ (c : ImageConstant). c.scheme.0 < length old.bank.types) old.constants.items ec

-- a copy with the numbers of its names
numbers_are : (above : Option Copy) (m : Member) (f : Firsts) (o : Open) → o.member.now ≡ m → AreNumbers (kind_above above) 8 f.kind
    (kinds_of m.object.now) o.names.kinds.items → AreNumbers (constant_above above) 32 f.constant (constants_of m.object.now) o.names.constants.items
    → IsSmall (copy_of above m.object.now (ends_of f)) → open_copy o ≡ copy_of above m.object.now (ends_of f)
numbers_are above m f o of kinds constants small =
    let k = kinds small.kinds in
    let n = constants small.constants in
    λ i. record { object = (of i).object.now; kinds = k i; constants = n i }

pub entered_open : (old new : List Open) (m : Member) (f : Firsts) (o : Open) (above : Option Copy) → new ≡ old ++ o ∷ [] → o.member.now ≡ m → above ≡ copy_inside (reverse old)
    → AreNumbers (kind_above above) 8 f.kind (kinds_of m.object.now) o.names.kinds.items → AreNumbers (constant_above above) 32 f.constant
    (constants_of m.object.now) o.names.constants.items → IsEntered old new m f
entered_open old new m f o above pushed of inside kinds constants = record {
  opened = o;
  inside = reverse_pushed new old o pushed;
  of = of;
  numbers = subst (λ a. IsSmall (copy_of a m.object.now (ends_of f)) → open_copy o ≡ copy_of a m.object.now (ends_of f)) inside (numbers_are above m f o of kinds constants);
}

pub begun_open : (around : List Open) (m : Member) (f : Firsts) (o : Open) (making : Making) → around ≡ o ∷ [] → o.member.now ≡ m
    → AreNumbers (kind_above None) 8 f.kind (kinds_of m.object.now) o.names.kinds.items → AreNumbers (constant_above None) 32 f.constant (constants_of m.object.now) o.names.constants.items
    → AreTabled (open_copy o) [] making → IsBegun m f making around
begun_open around m f o making pushed of kinds constants tables = record {
  opened = o;
  inside = ap reverse pushed;
  of = of;
  numbers = numbers_are None m f o of kinds constants;
  tables = tables;
}

-- the object of a member
pub member_at : (ms : List Member) (i : ℕ) (m : Member) → i < length ms → m ≡ get_or ms i m → slice_get (map (λ m. m.object.now) ms) i ≡ Some m.object.now
member_at ms i m l is = get_map (λ m. m.object.now) ms i m (slice_get-get_or ms i m l ∙ ap Some (sym is))
