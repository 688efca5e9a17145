-- Whether an index is in a term follows from whether it is in the parts.
use Rattle.std.proofs.Common.{◌≡◌, ℕ, zero, suc, ◌+◌, ◌<◌, ◌^◌, ◌≢◌, List, [], ◌∷◌, ◌++◌, length, map, take, get_or, append_assoc, refl, sym, ap, ◌∙◌, subst as transport, arith, Bool, true, false, nat_eq, add-one}
use Rattle.std.specs.Prelude.{All, not, ◌&&◌}
use Rattle.std.specs.List.{IsAmong}
use Rattle.std.proofs.lemmas.Bool.Decides.{nat_tests}
use Rattle.std.proofs.lemmas.List.Elements.{All-push, All-weaker, All-nil, All-head, All-tail, All-cons, All-append}
use Rattle.lp_calculus.specs.Term.{Term, index, atom, abs, app, apply}
use Rattle.lp_calculus.specs.Normal.{is_absent}
use Rattle.lp_term.specs.Nodes.{Nodes, tree}
use Rattle.lp_term.specs.Walk.{size, Everywhere}
use Rattle.lp_term.specs.Raise.{FitsPut}
use Rattle.lp_term.specs.Spine.{LooseBelow}
use Rattle.lp_term.specs.Frame.{in_order}
use Rattle.lp_term.specs.Absent.{absent_at, IsBelow, size_at, total, places, IsSettled, AreParts, Leads}
use Rattle.lp_term.specs.declared.absent.Below.{Below}
use Rattle.lp_term.specs.declared.node.TermId.{TermId}
use Rattle.lp_term.proofs.Walks.{All-front, All-back, map_map}
use Rattle.lp_term.proofs.Ways.{among}

pub absent_loose : (n d e : ℕ) (t : Term) → d ≡ e + n → LooseBelow n e t → is_absent d t ≡ true
absent_loose n d e (index i) q l = let r : nat_eq i d ≡ false = grind (arith, nat_tests) in ap not r
absent_loose n d e (atom a) q l = refl
absent_loose n d e (abs b) q l = absent_loose n (suc d) (suc e) b (omega arith) l
absent_loose n d e (app t u) q l = ap (λ c. c && is_absent d u) (absent_loose n d e t q l.0) ∙ absent_loose n d e u q l.1

-- the first terms, and one more
places_one : (d : ℕ) (ids : List TermId) (k m : ℕ) (x : TermId) → m ≡ suc k → k < length ids → places d (take m ids) ≡ places d (take k ids) ++ record { id = get_or ids k x; depth = d } ∷ []
places_one d [] k m x e l = absurd (omega arith)
places_one d (t ∷ ts) zero m x e l = ap (λ n. places d (take n (t ∷ ts))) e
places_one d (t ∷ ts) (suc k) m x e l = ap (λ n. places d (take n (t ∷ ts))) e ∙ ap (λ y. record { id = t; depth = d } ∷ y) (places_one d ts k (suc k) x refl (omega arith))

pub pushed : (before more now after : List Below) (t : TermId) (d : ℕ) → after ≡ now ++ record { id = t; depth = d } ∷ [] → now ≡ before ++ more → after ≡ (before ++ more) ++ record { id = t; depth = d } ∷ []
pushed before more now after t d e q = e ∙ ap (λ l. l ++ record { id = t; depth = d } ∷ []) q

pub places_next : (before : List Below) (d : ℕ) (ids : List TermId) (k m : ℕ) (x : TermId) → m ≡ suc k → k < length ids →
    (before ++ places d (take k ids)) ++ record { id = get_or ids k x; depth = d } ∷ [] ≡ before ++ places d (take m ids)
places_next before d ids k m x e l = append_assoc before (places d (take k ids)) (record { id = get_or ids k x; depth = d } ∷ []) ∙ ap (λ y. before ++ y) (sym (places_one d ids k m x e l))

-- where the index is not in the body, any value fits in its place
pub absent_fits : (v : Term) (d : ℕ) (t : Term) → is_absent d t ≡ true → Everywhere (FitsPut v) d t
absent_fits v d (index i) e = λ q. let r : nat_eq i d ≡ true = grind (arith, nat_tests) in let s : not true ≡ true = ap not (sym r) ∙ e in absurd (cc)
absent_fits v d (atom a) e = tt
absent_fits v d (abs b) e = absent_fits v (suc d) b e
absent_fits v d (app t u) e = let k = both (is_absent d t) (is_absent d u) e in (absent_fits v d t k.0, absent_fits v d u k.1)
  where
    both : (a b : Bool) → (a && b) ≡ true → (a ≡ true) × (b ≡ true)
    both true b e = (refl, e)
    both false b e = absurd (cc)

-- a head on arguments
false_right : (a b : Bool) → b ≡ false → (a && b) ≡ false
false_right true b e = e
false_right false b e = refl

absent_apply : (b : Nodes) (d : ℕ) (h : Term) (ts : List TermId) → is_absent d h ≡ true → All (λ q. absent_at b q ≡ true) (places d ts) → is_absent d (apply h (in_order b ts)) ≡ true
absent_apply b d h [] e a = e
absent_apply b d h (t ∷ ts) e a =
    absent_apply b d (app h (tree b t.0)) ts (ap (λ c. c && is_absent d (tree b t.0)) e ∙ All-head (λ q. absent_at b q ≡ true) (record { id = t; depth = d }) (places d ts) a)
    (All-tail (λ q. absent_at b q ≡ true) (record { id = t; depth = d }) (places d ts) a)

present_head : (b : Nodes) (d : ℕ) (h : Term) (ts : List TermId) → is_absent d h ≡ false → is_absent d (apply h (in_order b ts)) ≡ false
present_head b d h [] e = e
present_head b d h (t ∷ ts) e = present_head b d (app h (tree b t.0)) ts (ap (λ c. c && is_absent d (tree b t.0)) e)

present_apply : (b : Nodes) (d : ℕ) (h : Term) (ts : List TermId) → All (λ q. absent_at b q ≡ false → is_absent d (apply h (in_order b ts)) ≡ false) (places d ts)
present_apply b d h [] = All-nil (λ q. absent_at b q ≡ false → is_absent d (apply h (in_order b [])) ≡ false)
present_apply b d h (t ∷ ts) =
    All-cons (λ q. absent_at b q ≡ false → is_absent d (apply h (in_order b (t ∷ ts))) ≡ false) (record { id = t; depth = d }) (places d ts)
    (λ e. present_head b d (app h (tree b t.0)) ts (false_right (is_absent d h) (is_absent d (tree b t.0)) e)) (present_apply b d (app h (tree b t.0)) ts)

size_apply : (b : Nodes) (d : ℕ) (h : Term) (ts : List TermId) → total b (places d ts) + length ts + size h ≡ size (apply h (in_order b ts))
size_apply b d h [] = omega arith
size_apply b d h (t ∷ ts) = omega (arith, size_apply b d (app h (tree b t.0)) ts)

each_fewer : (b : Nodes) (n : ℕ) (ps : List Below) → total b ps < n → All (λ q. size_at b q < n) ps
each_fewer b n [] l = All-nil (λ q. size_at b q < n)
each_fewer b n (p ∷ ps) l = All-cons (λ q. size_at b q < n) p ps (omega arith) (each_fewer b n ps (omega arith))

within_places : (b : Nodes) (d n : ℕ) (ts : List TermId) → n < length b.terms → d + n < 2 ^ 64 → All (λ i. i < n) (map (λ t. t.0) ts) → All (IsBelow b) (places d ts)
within_places b d n [] l m a = All-nil (IsBelow b)
within_places b d n (t ∷ ts) l m a =
    let k : t.0 < n = All-head (λ i. i < n) t.0 (map (λ t. t.0) ts) a in
    All-cons (IsBelow b) (record { id = t; depth = d }) (places d ts) (record { id = omega arith; depth = omega arith }) (within_places b d n ts l m (All-tail (λ i. i < n) t.0 (map (λ t. t.0) ts) a))

-- the parts of a place
size_some : (t : Term) → 0 < size t
size_some (index i) = omega arith
size_some (atom a) = omega arith
size_some (abs b) = omega arith
size_some (app t u) = omega arith

pub no_parts : (b : Nodes) (p : Below) → absent_at b p ≡ true → AreParts b p []
no_parts b p e = record {
  within = All-nil (IsBelow b);
  smaller = All-nil (λ q. size_at b q < size_at b p);
  fewer = size_some (tree b p.id.0);
  absent = λ a. e;
  present = All-nil (λ q. absent_at b q ≡ false → absent_at b p ≡ false);
}

pub body_part : (b : Nodes) (p : Below) (body : TermId) → IsBelow b p → abs (tree b body.0) ≡ tree b p.id.0 → body.0 < p.id.0 → AreParts b p (record { id = body; depth = p.depth + 1 } ∷ [])
body_part b p body i e l =
    let q : Below = record { id = body; depth = p.depth + 1 } in
    let same : absent_at b q ≡ absent_at b p = ap (λ n. is_absent n (tree b body.0)) (add-one p.depth) ∙ ap (is_absent p.depth) e in
    let s : size_at b q < size_at b p = omega (arith, ap size e) in
    record {
      within = All-cons (IsBelow b) q [] (record { id = omega (arith, i.id); depth = omega (arith, i.depth) }) (All-nil (IsBelow b));
      smaller = All-cons (λ r. size_at b r < size_at b p) q [] s (All-nil (λ r. size_at b r < size_at b p));
      fewer = omega (arith, s);
      absent = λ a. sym same ∙ All-head (λ r. absent_at b r ≡ true) q [] a;
      present = All-cons (λ r. absent_at b r ≡ false → absent_at b p ≡ false) q [] (λ f. sym same ∙ f) (All-nil (λ r. absent_at b r ≡ false → absent_at b p ≡ false));
    }

pub all_parts : (b : Nodes) (p : Below) (head : TermId) (args : List TermId) → IsBelow b p → apply (tree b head.0) (in_order b args) ≡ tree b p.id.0 → head.0 < p.id.0 → All (λ i. i < p.id.0) (map (λ t. t.0) args) →
    0 < length args → AreParts b p (places p.depth (head ∷ args))
all_parts b p head args i e l a s =
    let h : Below = record { id = head; depth = p.depth } in
    let f : total b (places p.depth (head ∷ args)) < size_at b p = omega (arith, size_apply b p.depth (tree b head.0) args, ap size e) in
    record {
      within = All-cons (IsBelow b) h (places p.depth args) (record { id = omega (arith, i.id); depth = omega (arith, i.depth) }) (within_places b p.depth p.id.0 args i.id i.depth a);
      smaller = each_fewer b (size_at b p) (places p.depth (head ∷ args)) f;
      fewer = f;
      absent = λ k.
          ap (is_absent p.depth) (sym e) ∙
          absent_apply b p.depth (tree b head.0) args (All-head (λ q. absent_at b q ≡ true) h (places p.depth args) k) (All-tail (λ q. absent_at b q ≡ true) h (places p.depth args) k);
      present = All-weaker (λ q. absent_at b q ≡ false → is_absent p.depth (apply (tree b head.0) (in_order b args)) ≡ false) (λ q. absent_at b q ≡ false → absent_at b p ≡ false)
          (λ q g f. ap (is_absent p.depth) (sym e) ∙ g f) (places p.depth (head ∷ args))
          (All-cons (λ q. absent_at b q ≡ false → is_absent p.depth (apply (tree b head.0) (in_order b args)) ≡ false) h (places p.depth args)
          (present_head b p.depth (tree b head.0) args) (present_apply b p.depth (tree b head.0) args));
    }

-- the way begins
pub begun : (b : Nodes) (head : TermId) (args : List TermId) (left : List Below) → left ≡ places 0 (head ∷ args) → length b.terms < 2 ^ 62 → head.0 < length b.terms → All (λ t. t.0 < length b.terms) args →
    Leads b (apply (tree b head.0) (in_order b args)) [] left
begun b head args left q n l a =
    let h : Below = record { id = head; depth = 0 } in
    transport (Leads b (apply (tree b head.0) (in_order b args)) []) (sym q) (record {
      within = All-cons (IsBelow b) h (places 0 args) (record { id = l; depth = omega arith }) (each args a);
      settled = All-nil (IsSettled b (places 0 (head ∷ args)));
      absent = λ k. absent_apply b 0 (tree b head.0) args (All-head (λ q. absent_at b q ≡ true) h (places 0 args) k) (All-tail (λ q. absent_at b q ≡ true) h (places 0 args) k);
      present = All-cons (λ q. absent_at b q ≡ false → is_absent 0 (apply (tree b head.0) (in_order b args)) ≡ false) h (places 0 args)
          (present_head b 0 (tree b head.0) args) (present_apply b 0 (tree b head.0) args);
    })
  where
    each : (ts : List TermId) → All (λ t. t.0 < length b.terms) ts → All (IsBelow b) (places 0 ts)
    each [] k = All-nil (IsBelow b)
    each (t ∷ ts) k =
        let i : t.0 < length b.terms = All-head (λ t. t.0 < length b.terms) t ts k in
        All-cons (IsBelow b) (record { id = t; depth = 0 }) (places 0 ts) (record { id = i; depth = omega arith }) (each ts (All-tail (λ t. t.0 < length b.terms) t ts k))

-- the last place of those that are left is taken
module _ (b : Nodes) (t : Term) (marks all left : List Below) (p : Below) (q : all ≡ left ++ p ∷ []) (h : Leads b t marks all) where
  front : (P : Below → Type 0) → All P all → All P left
  front P a = All-front P left (p ∷ []) (transport (All P) q a)

  last : (P : Below → Type 0) → All P all → P p
  last P a = All-head P p [] (All-back P left (p ∷ []) (transport (All P) q a))

  again : (P : Below → Type 0) → All P left → P p → All P all
  again P a k = transport (All P) (sym q) (All-push P left p a k)

  pub place_within : IsBelow b p
  place_within = last (IsBelow b) h.within

  pub is_there : absent_at b p ≡ false → is_absent 0 t ≡ false
  is_there e = last (λ r. absent_at b r ≡ false → is_absent 0 t ≡ false) h.present e

  -- the index is not in it
  pub passed : absent_at b p ≡ true → Leads b t marks left
  passed e = record {
    within = front (IsBelow b) h.within;
    settled = All-weaker (IsSettled b all) (IsSettled b left) (λ m s a. s (again (λ r. size_at b r < size_at b m → absent_at b r ≡ true) a (λ l. e))) marks h.settled;
    absent = λ a. h.absent (again (λ r. absent_at b r ≡ true) a e);
    present = front (λ r. absent_at b r ≡ false → is_absent 0 t ≡ false) h.present;
  }

  settled : IsSettled b all p → All (λ r. size_at b r < size_at b p → absent_at b r ≡ true) left → absent_at b p ≡ true
  settled s a = s (again (λ r. size_at b r < size_at b p → absent_at b r ≡ true) a (λ l. absurd (omega arith)))

  -- it was looked into before
  pub passed_again : IsAmong marks p → Leads b t marks left
  passed_again m =
      let s = among (IsSettled b all) marks p h.settled m in
      record {
        within = front (IsBelow b) h.within;
        settled = All-weaker (IsSettled b all) (IsSettled b left)
            (λ n k a. k (again (λ r. size_at b r < size_at b n → absent_at b r ≡ true) a
            (λ l. settled s (All-weaker (λ r. size_at b r < size_at b n → absent_at b r ≡ true) (λ r. size_at b r < size_at b p → absent_at b r ≡ true) (λ r g j. g (omega arith)) left a)))) marks h.settled;
        absent = λ a. h.absent (again (λ r. absent_at b r ≡ true) a (settled s (All-weaker (λ r. absent_at b r ≡ true) (λ r. size_at b r < size_at b p → absent_at b r ≡ true) (λ r g j. g) left a)));
        present = front (λ r. absent_at b r ≡ false → is_absent 0 t ≡ false) h.present;
      }

  -- it is looked into
  module _ (now parts : List Below) (e : now ≡ left ++ parts) (k : AreParts b p parts) where
    old : (P : Below → Type 0) → All P now → All P left
    old P a = All-front P left parts (transport (All P) e a)

    new : (P : Below → Type 0) → All P now → All P parts
    new P a = All-back P left parts (transport (All P) e a)

    pub settles : IsSettled b now p
    settles a = k.absent (both parts (new (λ r. size_at b r < size_at b p → absent_at b r ≡ true) a) k.smaller)
      where
        both : (ps : List Below) → All (λ r. size_at b r < size_at b p → absent_at b r ≡ true) ps → All (λ r. size_at b r < size_at b p) ps → All (λ r. absent_at b r ≡ true) ps
        both [] x y = All-nil (λ r. absent_at b r ≡ true)
        both (r ∷ rs) x y =
            All-cons (λ r. absent_at b r ≡ true) r rs
            (All-head (λ r. size_at b r < size_at b p → absent_at b r ≡ true) r rs x (All-head (λ r. size_at b r < size_at b p) r rs y))
            (both rs (All-tail (λ r. size_at b r < size_at b p → absent_at b r ≡ true) r rs x) (All-tail (λ r. size_at b r < size_at b p) r rs y))

    weaker : (n : ℕ) → All (λ r. size_at b r < n → absent_at b r ≡ true) now → size_at b p < n → absent_at b p ≡ true
    weaker n a l = settles (All-weaker (λ r. size_at b r < n → absent_at b r ≡ true) (λ r. size_at b r < size_at b p → absent_at b r ≡ true) (λ r g j. g (omega arith)) now a)

    pub still_settled : All (IsSettled b now) marks
    still_settled =
        All-weaker (IsSettled b all) (IsSettled b now)
        (λ m s a. s (again (λ r. size_at b r < size_at b m → absent_at b r ≡ true) (old (λ r. size_at b r < size_at b m → absent_at b r ≡ true) a) (weaker (size_at b m) a))) marks h.settled

    pub goes_on : (after : List Below) → All (IsSettled b now) after → Leads b t after now
    goes_on after m = record {
      within = transport (All (IsBelow b)) (sym e) (All-append (IsBelow b) left parts (front (IsBelow b) h.within) k.within);
      settled = m;
      absent = λ a. h.absent (again (λ r. absent_at b r ≡ true) (old (λ r. absent_at b r ≡ true) a) (k.absent (new (λ r. absent_at b r ≡ true) a)));
      present = transport (All (λ r. absent_at b r ≡ false → is_absent 0 t ≡ false)) (sym e)
          (All-append (λ r. absent_at b r ≡ false → is_absent 0 t ≡ false) left parts (front (λ r. absent_at b r ≡ false → is_absent 0 t ≡ false) h.present)
          (All-weaker (λ r. absent_at b r ≡ false → absent_at b p ≡ false) (λ r. absent_at b r ≡ false → is_absent 0 t ≡ false) (λ r g f. is_there (g f)) parts k.present));
    }

total_append : (b : Nodes) (xs ys : List Below) → total b (xs ++ ys) ≡ total b xs + total b ys
total_append b [] ys = omega arith
total_append b (x ∷ xs) ys = omega (arith, total_append b xs ys)

pub fewer_left : (b : Nodes) (all left : List Below) (p : Below) → all ≡ left ++ p ∷ [] → total b left < total b all
fewer_left b all left p q = omega (arith, ap (total b) q, total_append b left (p ∷ []), size_some (tree b p.id.0))

pub fewer_parts : (b : Nodes) (all left now parts : List Below) (p : Below) → all ≡ left ++ p ∷ [] → now ≡ left ++ parts → total b parts < size_at b p → total b now < total b all
fewer_parts b all left now parts p q e l = omega (arith, ap (total b) q, total_append b left (p ∷ []), ap (total b) e, total_append b left parts)

-- as the program has it
pub begun_with : (b : Nodes) (head : TermId) (args : List TermId) (marks none one left : List Below) → none ≡ [] → one ≡ none ++ record { id = head; depth = 0 } ∷ [] → left ≡ one ++ places 0 args → marks ≡ [] →
    length b.terms < 2 ^ 62 → head.0 < length b.terms → All (λ t. t.0 < length b.terms) args → Leads b (apply (tree b head.0) (in_order b args)) marks left
begun_with b head args marks none one left e q r m n l a =
    transport (λ k. Leads b (apply (tree b head.0) (in_order b args)) k left) (sym m)
    (begun b head args left (r ∙ ap (λ k. k ++ places 0 args) (q ∙ ap (λ k. k ++ record { id = head; depth = 0 } ∷ []) e)) n l a)

pub absent_known : (b : Nodes) (p : Below) → LooseBelow p.depth 0 (tree b p.id.0) → absent_at b p ≡ true
absent_known b p l = absent_loose p.depth p.depth 0 (tree b p.id.0) (omega arith) l

some : (ids : List TermId) → map (λ t. t.0) ids ≢ [] → 0 < length ids
some [] n = absurd (n refl)
some (t ∷ ts) n = omega arith

pub node_parts : (b : Nodes) (p : Below) (head : TermId) (args : List TermId) (old one now : List Below) → IsBelow b p → apply (tree b head.0) (map (tree b) (map (λ t. t.0) args)) ≡ tree b p.id.0 →
    (head.0 < p.id.0) × All (λ i. i < p.id.0) (map (λ t. t.0) args) × (map (λ t. t.0) args ≢ []) → one ≡ old ++ record { id = head; depth = p.depth } ∷ [] → now ≡ one ++ places p.depth args →
    (parts : List Below) × (now ≡ old ++ parts) × AreParts b p parts
node_parts b p head args old one now i e l q r = (
  places p.depth (head ∷ args),
  r ∙ ap (λ k. k ++ places p.depth args) q ∙ append_assoc old (record { id = head; depth = p.depth } ∷ []) (places p.depth args),
  all_parts b p head args i (ap (apply (tree b head.0)) (sym (map_map (tree b) (λ t. t.0) args)) ∙ e) l.0 l.1 (some args l.2),
)
