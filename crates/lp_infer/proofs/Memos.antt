-- Types that are read off with their type variables numbered: what was made stays right while more is met.
use Rattle.std.proofs.Common.{◌≡◌, ℕ, suc, ◌+◌, ◌<◌, List, [], ◌∷◌, ◌++◌, map, reverse, length, refl, sym, ap, subst, ◌∙◌, Option, Some, None, Bool, true, false, arith, take, get_or, inl, inr}
use Rattle.std.specs.Prelude.{◌⊎◌, nat_eq, if◌then◌else◌}
use Rattle.std.specs.List.{list_any, position_or_len}
use Rattle.std.specs.Map.{lookup}
use Rattle.std.proofs.lemmas.List.{append-nil, append_assoc, map-append, reverse-append, reverse-reverse, map_more}
use Rattle.std.proofs.lemmas.List.Elements.{All-append, All-cons, All-nil}
use Rattle.indexmap.specs.IndexMap.{IndexMap, get}
use Rattle.indexmap.specs.IndexSet.{insert_key}
use Rattle.indexmap.proofs.ReorderLemmas.{map-reverse}
use Rattle.lp_calculus.specs.Types.{Ty, var, param, con, arrow, tys, instance}
use Rattle.lp_term.specs.Nodes.{Nodes, type_tree, Extends}
use Rattle.lp_term.specs.declared.node.TypeId.{TypeId}
use Rattle.lp_infer.specs.Numbering.{type_variables, types_variables, all_variables}
use Rattle.lp_infer.specs.Meeting.{place, met, AllMet, renaming}
use Rattle.lp_term.specs.Within.{IsTypeOf, AreTypesOf}
use Rattle.lp_infer.specs.Copies.{trees_of, IsType}
use Rattle.lp_infer.specs.inner.Waiting.{IsPut}
use Rattle.lp_infer.proofs.Waiting.{put_since}
use Rattle.lp_infer.specs.ReadingOff.{bound_type, IsReadAs, IsReadMemo, AreRead, pending, ReadsOne, ReadsAll, IsTaken}
use Rattle.lp_infer.specs.declared.reading.Reading.{Reading}
use Rattle.lp_infer.specs.declared.reading.Task.{Task}
use Rattle.lp_infer.specs.declared.reading.Task.TheVariants as task
use Rattle.lp_term.proofs.Trees.{extends_same}
use Rattle.lp_term.proofs.Within.{type_trees_later, types_later}
use Rattle.lp_infer.proofs.Copying.{tys_instance}
use Rattle.lp_infer.proofs.Acting.{trees_append}
use Rattle.lp_type_unify.specs.Reading.{AreKept, Slot, reads}
use Rattle.lp_type_unify.specs.Looking.{IsUnbound}
use Rattle.std.proofs.lemmas.Option.{same_Some}
use Rattle.lp_term.proofs.Walks.{map_map}
use Rattle.lp_lemmas.proofs.Lists.{reverse_pushed}
use Rattle.lp_infer.proofs.Meetings.{place_absent, place_new, inserted, met_grows, met_append, all_more, all_appended, met_again, type_kept, list_kept, keeps}

-- the number of a type variable

behind : (n : ℕ) → suc n ≡ 1 + n
behind n = omega arith

place_is : (N : List ℕ) (x : ℕ) → place N x ≡ position_or_len (nat_eq x) N
place_is [] x = refl
place_is (y ∷ N) x = go (nat_eq x y) refl (place_is N x) where
  go : (b : Bool) → nat_eq x y ≡ b → place N x ≡ position_or_len (nat_eq x) N → place (y ∷ N) x ≡ position_or_len (nat_eq x) (y ∷ N)
  go true e h = rw e refl
  go false e h = rw e (ap (λ n. suc n) h ∙ behind (position_or_len (nat_eq x) N))

pub place_inserted : (N : List ℕ) (x : ℕ) → position_or_len (nat_eq x) N ≡ place (insert_key nat_eq N x) x
place_inserted N x = sym (place_is N x) ∙ go (list_any (nat_eq x) N) refl where
  go : (b : Bool) → list_any (nat_eq x) N ≡ b → place N x ≡ place (if b then N else N ++ x ∷ []) x
  go true e = refl
  go false e = place_absent N x e ∙ sym (place_new N [] x e) ∙ ap (λ l. place l x) (append-nil (N ++ x ∷ []))

-- what was read off stays

pub read_stays : (b c : Nodes) (N M more : List ℕ) (A : Ty) (j : ℕ) → Extends b c → M ≡ N ++ more → IsReadAs b N A j → IsReadAs c M A j
read_stays b c N M more A j E e R = record {
  known = (let k = R.known in let m = E.more_types in omega (arith, k, m));
  is = E.same_types j R.known ∙ R.is ∙ sym (ap (λ l. instance (renaming l) A) e ∙ type_kept N more A R.all);
  all = subst (λ l. AllMet l (type_variables A)) (sym e) (all_more N more (type_variables A) R.all);
}

pub nothing_kept : {S : Type 0} (m : IndexMap ℕ ℕ S) (i j : ℕ) → m.entries ≡ [] → get nat_eq m i ≡ Some j → ⊥
nothing_kept m i j e f = let g : Some j ≡ None = sym f ∙ ap (λ es. lookup (nat_eq i) es) e in absurd (cc)

module _ (A : ℕ → Ty) where
  pub memo_stays : (b c : Nodes) (old new : Reading) (more : List ℕ) → Extends b c → new.made ≡ old.made → new.numbers.keys ≡ old.numbers.keys ++ more → IsReadMemo A b old → IsReadMemo A c new
  memo_stays b c old new more E made keys M = λ i j e. read_stays b c old.numbers.keys new.numbers.keys more (A i) j E keys (M i j (ap (λ m. get nat_eq m i) (sym made) ∙ e))

  pub memo_more : (b c : Nodes) (old new : Reading) (more : List ℕ) (id top j : ℕ) → Extends b c → new.numbers.keys ≡ old.numbers.keys ++ more → IsPut id top j old new → A id ≡ A top →
      IsReadAs c new.numbers.keys (A top) j → IsReadMemo A b old → IsReadMemo A c new
  memo_more b c old new more id top j E keys put same R M = λ i k e. go i k e (put.each i) where
    of_top : (i : ℕ) → (i ≡ id) ⊎ (i ≡ top) → A top ≡ A i
    of_top i (inl e) = sym (ap A e ∙ same)
    of_top i (inr e) = sym (ap A e)

    go : (i k : ℕ) → get nat_eq new.made i ≡ Some k → (get nat_eq new.made i ≡ get nat_eq old.made i) ⊎ (((i ≡ id) ⊎ (i ≡ top)) × (get nat_eq new.made i ≡ Some j)) → IsReadAs c new.numbers.keys (A i) k
    go i k e (inl f) = read_stays b c old.numbers.keys new.numbers.keys more (A i) k E keys (M i k (sym f ∙ e))
    go i k e (inr f) =
        let d : j ≡ k = same_Some j k (sym f.1 ∙ e) in
        subst (λ n. IsReadAs c new.numbers.keys (A i) n) d (subst (λ T. IsReadAs c new.numbers.keys T j) (of_top i f.0) R)

pub variable_read : (b : Nodes) (N : List ℕ) (A : Ty) (v j : ℕ) → A ≡ var v → (j < length b.types) × (type_tree b j ≡ var (place N v)) → list_any (nat_eq v) N ≡ true → IsReadAs b N A j
variable_read b N A v j e h m = record { known = h.0; is = h.1 ∙ ap (instance (renaming N)) (sym e); all = subst (λ T. AllMet N (type_variables T)) (sym e) (m, tt) }

pub parameter_read : (b : Nodes) (N : List ℕ) (A : Ty) (k j : ℕ) → A ≡ param k → (j < length b.types) × (type_tree b j ≡ param k) → IsReadAs b N A j
parameter_read b N A k j e h = record { known = h.0; is = h.1 ∙ ap (instance (renaming N)) (sym e); all = subst (λ T. AllMet N (type_variables T)) (sym e) tt }

-- a variable that is not bound reads as itself
pub unbound_reads : {S : Type 0} (b : Nodes) (made : IndexMap ℕ TypeId S) (top v : ℕ) → AreKept b made → IsUnbound (get nat_eq made) (type_tree b top) → var v ≡ type_tree b top → bound_type b made top ≡ var v
unbound_reads b made top v K U e = ap (instance (reads b made)) (sym e) ∙ slot (get nat_eq made v) (K v) (subst (IsUnbound (get nat_eq made)) (sym e) U) where
  slot : (o : Option TypeId) → Slot (type_tree b) (length b.types) (reads b made) v o → o ≡ None → reads b made v ≡ var v
  slot None s e = s
  slot (Some t) s e = absurd (cc)

module _ (A : ℕ → Ty) where
  -- a type variable that was given a number, put, and kept
  pub variable_kept : (b c : Nodes) (old now new : Reading) (v id top j number : ℕ) → Extends b c → now.made ≡ old.made → now.numbers.keys ≡ insert_key nat_eq old.numbers.keys v → number ≡ place now.numbers.keys v → new.numbers ≡ now.numbers →
      IsPut id top j now new → (j < length c.types) × (type_tree c j ≡ var number) → A id ≡ A top → A top ≡ var v → IsReadMemo A b old → IsReadMemo A c new
  variable_kept b c old now new v id top j number E made keys number_is kept put h same is M =
      let more = keeps old.numbers.keys v in
      let all : new.numbers.keys ≡ insert_key nat_eq old.numbers.keys v = ap (λ n. n.keys) kept ∙ keys in
      memo_more A b c old new more.0 id top j E (all ∙ more.1) (put_since id top j old now new made put) same
      (variable_read c new.numbers.keys (A top) v j is (h.0, h.1 ∙ ap var (number_is ∙ ap (λ l. place l v) (sym (ap (λ n. n.keys) kept)))) (subst (λ l. list_any (nat_eq v) l ≡ true) (sym all) (inserted old.numbers.keys v))) M

  pub parameter_kept : (b c : Nodes) (old new : Reading) (k id top j : ℕ) → Extends b c → new.numbers ≡ old.numbers →
      IsPut id top j old new → (j < length c.types) × (type_tree c j ≡ param k) → A id ≡ A top → A top ≡ param k → IsReadMemo A b old → IsReadMemo A c new
  parameter_kept b c old new k id top j E kept put h same is M =
      memo_more A b c old new [] id top j E (ap (λ n. n.keys) kept ∙ sym (append-nil old.numbers.keys)) put same (parameter_read c new.numbers.keys (A top) k j is h) M

  pub made_kept : (b c : Nodes) (old new : Reading) (id top j : ℕ) → Extends b c → new.numbers ≡ old.numbers →
      IsPut id top j old new → A id ≡ A top → IsReadAs c old.numbers.keys (A top) j → IsReadMemo A b old → IsReadMemo A c new
  made_kept b c old new id top j E kept put same h M =
      memo_more A b c old new [] id top j E (ap (λ n. n.keys) kept ∙ sym (append-nil old.numbers.keys)) put same (subst (λ l. IsReadAs c l (A top) j) (sym (ap (λ n. n.keys) kept)) h) M

-- lists

pub list_pushed : (A : ℕ → Ty) (ids : List TypeId) (i : ℕ) (d : TypeId) → i < length ids → map A (map (λ t. t.0) (take (i + 1) ids)) ≡ map A (map (λ t. t.0) (take i ids)) ++ A (get_or ids i d).0 ∷ []
list_pushed A ids i d h = ap (map A) (map_more (λ t. t.0) ids i d h) ∙ map-append A (map (λ t. t.0) (take i ids)) ((get_or ids i d).0 ∷ [])

all_pushed : (As : List Ty) (A : Ty) → all_variables (As ++ A ∷ []) ≡ all_variables As ++ type_variables A
all_pushed [] A = append-nil (type_variables A)
all_pushed (B ∷ As) A = ap (λ l. type_variables B ++ l) (all_pushed As A) ∙ sym (append_assoc (type_variables B) (all_variables As) (type_variables A))

pub none_read : (b : Nodes) (N : List ℕ) (ids : List TypeId) → ids ≡ [] → AreRead b N [] ids
none_read b N ids e = record { known = subst (AreTypesOf b) (sym e) (All-nil (IsTypeOf b)); are = ap (trees_of b) e; all = tt }

pub more_read : (b : Nodes) (N : List ℕ) (As Bs : List Ty) (ids more : List TypeId) (A : Ty) (j : TypeId) → Bs ≡ As ++ A ∷ [] → more ≡ ids ++ j ∷ [] → AreRead b N As ids → IsReadAs b N A j.0 → AreRead b N Bs more
more_read b N As Bs ids more A j f e R S = record {
  known = subst (AreTypesOf b) (sym e)
      (All-append (IsTypeOf b) ids (j ∷ []) R.known (All-cons (IsTypeOf b) j [] S.known (All-nil (IsTypeOf b))));
  are = ap (trees_of b) e ∙ trees_append b ids (j ∷ []) ∙ ap (λ l. l ++ type_tree b j.0 ∷ []) R.are ∙ ap (λ T. map (instance (renaming N)) As ++ T ∷ []) S.is ∙ sym (map-append (instance (renaming N)) As (A ∷ [])) ∙ ap (map (instance (renaming N))) (sym f);
  all = subst (AllMet N) (sym (ap all_variables f ∙ all_pushed As A)) (all_appended N (all_variables As) (type_variables A) R.all S.all);
}

pub list_stays : (b c : Nodes) (N M more : List ℕ) (As : List Ty) (ids : List TypeId) → Extends b c → M ≡ N ++ more → AreRead b N As ids → AreRead c M As ids
list_stays b c N M more As ids E e R = record {
  known = types_later b c ids E R.known;
  are = type_trees_later b c ids E R.known ∙ R.are ∙ sym (ap (λ l. map (instance (renaming l)) As) e ∙ list_kept N more As R.all);
  all = subst (λ l. AllMet l (all_variables As)) (sym e) (all_more N more (all_variables As) R.all);
}

-- a node of a type

pub variables_of : (Ts : List Ty) → types_variables (tys Ts) ≡ all_variables Ts
variables_of [] = refl
variables_of (T ∷ Ts) = ap (λ l. type_variables T ++ l) (variables_of Ts)

module _ (θ τ : ℕ → Ty) where
  abbrev A_ : ℕ → Ty
  A_ i = instance θ (τ i)

  pub con_is : (k : ℕ) (ids : List ℕ) → instance θ (con k (tys (map τ ids))) ≡ con k (tys (map (λ i. instance θ (τ i)) ids))
  con_is k ids = ap (con k) (sym (tys_instance θ (map τ ids))) ∙ ap (λ l. con k (tys l)) (map_map (instance θ) τ ids)

  pub con_variables : (k : ℕ) (ids : List ℕ) (T : Ty) → con k (tys (map τ ids)) ≡ T → type_variables (instance θ T) ≡ all_variables (map (λ i. instance θ (τ i)) ids)
  con_variables k ids T e = ap (λ U. type_variables (instance θ U)) (sym e) ∙ ap type_variables (con_is k ids) ∙ variables_of (map (λ i. instance θ (τ i)) ids)

  pub con_read : (b c : Nodes) (N : List ℕ) (k : ℕ) (ids : List TypeId) (parts : List TypeId) (T : Ty) (j : TypeId) → con k (tys (map τ (map (λ t. t.0) ids))) ≡ T → AreRead b N (map (λ i. instance θ (τ i)) (map (λ t. t.0) ids)) parts →
      IsType c j (con k (tys (trees_of b parts))) → IsReadAs c N (instance θ T) j.0
  con_read b c N k ids parts T j e R h = record {
    known = h.0;
    is = h.1 ∙ ap (λ l. con k (tys l)) R.are ∙ ap (con k) (tys_instance (renaming N) (map (λ i. instance θ (τ i)) (map (λ t. t.0) ids))) ∙ ap (instance (renaming N)) (sym (con_is k (map (λ t. t.0) ids)) ∙ ap (instance θ) e);
    all = subst (AllMet N) (sym (con_variables k (map (λ t. t.0) ids) T e)) R.all;
  }

  arrows : (P Q R S : Ty) → P ≡ R → Q ≡ S → arrow P Q ≡ arrow R S
  arrows P Q R S e f = cc

  pub arrow_read : (b c : Nodes) (N : List ℕ) (l r : ℕ) (T : Ty) (one other j : TypeId) → arrow (τ l) (τ r) ≡ T → IsReadAs b N (instance θ (τ l)) one.0 → IsReadAs b N (instance θ (τ r)) other.0 → IsType c j (arrow (type_tree b one.0) (type_tree b other.0)) → IsReadAs c N (instance θ T) j.0
  arrow_read b c N l r T one other j e R S h = record {
    known = h.0;
    is = h.1 ∙ arrows _ _ _ _ R.is S.is ∙ ap (λ U. instance (renaming N) (instance θ U)) e;
    all = subst (λ U. AllMet N (type_variables (instance θ U))) e (all_appended N (type_variables (instance θ (τ l))) (type_variables (instance θ (τ r))) R.all S.all);
  }

-- tasks

pub parts_pushed : (work now new : List Task) (b : Task) (ids : List TypeId) → now ≡ work ++ b ∷ [] → new ≡ now ++ map task.Visit (reverse ids) → reverse new ≡ map task.Visit ids ++ b ∷ reverse work
parts_pushed work now new b ids e f =
    ap reverse f ∙ reverse-append now (map task.Visit (reverse ids)) ∙ ap (λ l. l ++ reverse now) (sym (map-reverse task.Visit (reverse ids)) ∙ ap (map task.Visit) (reverse-reverse ids)) ∙ ap (λ l. map task.Visit ids ++ l) (reverse_pushed now work b e)

pub arrow_pushed : (work one two three : List Task) (a b c : Task) → one ≡ work ++ a ∷ [] → two ≡ one ++ b ∷ [] → three ≡ two ++ c ∷ [] → reverse three ≡ c ∷ b ∷ a ∷ reverse work
arrow_pushed work one two three a b c e f g = reverse_pushed three two c g ∙ ap (λ l. c ∷ l) (reverse_pushed two one b f ∙ ap (λ l. b ∷ l) (reverse_pushed one work a e))

pub visits_pending : (A : ℕ → Ty) (ids : List TypeId) (ts : List Task) → pending A (map task.Visit ids ++ ts) ≡ all_variables (map A (map (λ t. t.0) ids)) ++ pending A ts
visits_pending A [] ts = refl
visits_pending A (id ∷ ids) ts = ap (λ l. type_variables (A id.0) ++ l) (visits_pending A ids ts) ∙ sym (append_assoc (type_variables (A id.0)) (all_variables (map A (map (λ t. t.0) ids))) (pending A ts))

module _ (A : ℕ → Ty) where
  -- what was read before
  pub again : (b : Nodes) (old new : Reading) (id top : TypeId) (j : ℕ) (ts : List Task) → A top.0 ≡ A id.0 → get nat_eq old.made top.0 ≡ Some j → new.numbers ≡ old.numbers → IsPut id.0 top.0 j old new → IsTaken A b b old new (task.Visit id ∷ ts) ts
  again b old new id top j ts same e kept put = record {
    memo = λ M. made_kept A b b old new id.0 top.0 j (extends_same b) kept put (sym same) (M top.0 j e) M;
    order = λ M.
        let R = M top.0 j e in
        ap (λ s. met s.keys (pending A ts)) kept ∙
        sym (met_append (type_variables (A id.0)) (pending A ts) old.numbers.keys ∙ ap (λ N. met N (pending A ts)) (met_again (type_variables (A id.0)) old.numbers.keys (subst (λ T. AllMet old.numbers.keys (type_variables T)) same R.all)));
  }

  pub taken_variable : (b c : Nodes) (old new : Reading) (id top : TypeId) (v : ℕ) (ts : List Task) → A top.0 ≡ A id.0 → A top.0 ≡ var v →
      new.numbers.keys ≡ insert_key nat_eq old.numbers.keys v → (A top.0 ≡ var v → IsReadMemo A b old → IsReadMemo A c new) → IsTaken A b c old new
      (task.Visit id ∷ ts) ts
  taken_variable b c old new id top v ts same is keys memo = record {
    memo = memo is;
    order = λ M. ap (λ N. met N (pending A ts)) keys ∙ ap (λ T. met old.numbers.keys (type_variables T ++ pending A ts)) (sym is ∙ same);
  }

  pub taken_parameter : (b c : Nodes) (old new : Reading) (id top : TypeId) (k : ℕ) (ts : List Task) → A top.0 ≡ A id.0 → A top.0 ≡ param k → new.numbers ≡ old.numbers → (A top.0 ≡ param k → IsReadMemo A b old → IsReadMemo A c new) → IsTaken A b c old new (task.Visit id ∷ ts) ts
  taken_parameter b c old new id top k ts same is keys memo = record {
    memo = memo is;
    order = λ M. ap (λ s. met s.keys (pending A ts)) keys ∙ ap (λ T. met old.numbers.keys (type_variables T ++ pending A ts)) (sym is ∙ same);
  }

  pub taken_parts : (b : Nodes) (r : Reading) (id top : TypeId) (ids : List TypeId) (ts left : List Task) → A top.0 ≡ A id.0 → type_variables (A top.0) ≡ all_variables (map A (map (λ t. t.0) ids)) → left ≡ map task.Visit ids ++ (task.Build id top ∷ ts) → IsTaken A b b r r (task.Visit id ∷ ts) left
  taken_parts b r id top ids ts left same is e = record {
    memo = λ M. M;
    order = λ M. ap (λ l. met r.numbers.keys (pending A l)) e ∙ ap (met r.numbers.keys) (visits_pending A ids (task.Build id top ∷ ts)) ∙ ap (λ l. met r.numbers.keys (l ++ pending A ts)) (sym is ∙ ap type_variables same);
  }

  pub taken_arrow : (b : Nodes) (r : Reading) (id top left right : TypeId) (ts todo : List Task) → A top.0 ≡ A id.0 → type_variables (A top.0) ≡ type_variables (A left.0) ++ type_variables (A right.0) → todo ≡ task.Visit left ∷ task.Visit right ∷ task.Build id top ∷ ts →
      IsTaken A b b r r (task.Visit id ∷ ts) todo
  taken_arrow b r id top left right ts todo same is e = record {
    memo = λ M. M;
    order = λ M. ap (λ l. met r.numbers.keys (pending A l)) e ∙ ap (met r.numbers.keys) (sym (append_assoc (type_variables (A left.0)) (type_variables (A right.0)) (pending A ts))) ∙ ap (λ l. met r.numbers.keys (l ++ pending A ts)) (sym is ∙ ap type_variables same);
  }

  pub taken_build : (b c : Nodes) (old new : Reading) (id top : TypeId) (ts : List Task) → new.numbers ≡ old.numbers → (IsReadMemo A b old → IsReadMemo A c new) → IsTaken A b c old new (task.Build id top ∷ ts) ts
  taken_build b c old new id top ts keys memo = record { memo = memo; order = λ M. ap (λ s. met s.keys (pending A ts)) keys }

  -- the last type that was read is read off
  pub reads_one : (b c : Nodes) (first last : Reading) (id : ℕ) (j : TypeId) (left : List Task) → left ≡ [] → (IsReadMemo A b first → IsReadMemo A c last) → (IsReadMemo A b first → met last.numbers.keys (pending A (reverse left)) ≡ met first.numbers.keys (type_variables (A id))) →
      (IsReadMemo A c last → IsReadAs c last.numbers.keys (A id) j.0) → IsReadMemo A b first → ReadsOne A c first last id j
  reads_one b c first last id j left e memo order part M = record { memo = memo M; numbers = ap (λ l. met last.numbers.keys (pending A (reverse l))) (sym e) ∙ order M; is = part (memo M) }

  -- one more type of a list
  pub reads_more : (b c : Nodes) (first old new : Reading) (ids more made made_more : List TypeId) (id j : TypeId) → Extends b c → more ≡ ids ++ id ∷ [] → made_more ≡ made ++ j ∷ [] → ReadsAll A b first old ids made → ReadsOne A c old new id.0 j → ReadsAll A c first new more made_more
  reads_more b c first old new ids more made made_more id j E e f R S =
      let As = map A (map (λ t. t.0) ids) in
      let pushed : map A (map (λ t. t.0) more) ≡ As ++ A id.0 ∷ [] = ap (λ l. map A (map (λ t. t.0) l)) e ∙ ap (map A) (map-append (λ t. t.0) ids (id ∷ [])) ∙ map-append A (map (λ t. t.0) ids) (id.0 ∷ []) in
      let grown = met_grows (type_variables (A id.0)) old.numbers.keys in
      record {
        memo = S.memo;
        numbers = S.numbers ∙ ap (λ N. met N (type_variables (A id.0))) R.numbers ∙ sym (met_append (all_variables As) (type_variables (A id.0)) first.numbers.keys) ∙ ap (met first.numbers.keys) (sym (ap all_variables pushed ∙ all_pushed As (A id.0)));
        are = more_read c new.numbers.keys As (map A (map (λ t. t.0) more)) made made_more (A id.0) j pushed f (list_stays b c old.numbers.keys new.numbers.keys grown.0 As made E (S.numbers ∙ grown.1) R.are) S.is;
      }

  pub reads_none : (b : Nodes) (r : Reading) (made : List TypeId) → made ≡ [] → IsReadMemo A b r → ReadsAll A b r r [] made
  reads_none b r made e M = record { memo = M; numbers = refl; are = none_read b r.numbers.keys made e }
