-- A task for a type gives way to the tasks for its parts.
use Rattle.std.proofs.Common.{◌≡◌, ◌∙◌, ℕ, ◌+◌, ◌-◌, List, [], ◌∷◌, ◌++◌, append_assoc, Bor, Option, map, length, take, drop, ap, refl, sym, arith}
use Rattle.std.proofs.lemmas.List.{length-append}
use Rattle.lp_lemmas.proofs.Lists.{append_nil_sym}
use Rattle.lp_calculus.specs.Types.{Ty, Tys, con, arrow, no_types, types, tys}
use Rattle.lp_term.specs.Nodes.{Nodes, type_tree}
use Rattle.lp_term.specs.declared.node.TermId.{TermId}
use Rattle.lp_term.specs.declared.node.TypeId.{TypeId}
use Rattle.lp_gen.specs.declared.types.TypeView.{TypeView}
use Rattle.lp_gen.specs.declared.written_types.TypeTask.{TypeTask}
use Rattle.lp_gen.specs.declared.written_types.TypeTask.TheVariants as on
use Rattle.lp_gen.specs.inner.Reading.{read, read_at}
use Rattle.std.specs.Prelude.{slice_index_or}
use Rattle.lp_gen.specs.declared.emitter.Emitter.{Emitter}
use Rattle.lp_gen.specs.inner.Pieces.{Piece, type_con, type_arrow, type_made, types_made}
use Rattle.lp_gen.specs.inner.Works.{Work, with_type, with_types, last_of, first_of, with_constructor, with_arrow, act, done, work_now, GivesWay}

pub done_push : (b : Nodes) (ts : List TypeTask) (t : TypeTask) (w : Work) → done b (ts ++ t ∷ []) w ≡ done b ts (act b t w)
done_push b [] t w = refl
done_push b (x ∷ ts) t w = ap (act b x) (done_push b ts t w)

-- the last task is taken off
pub done_popped : (b : Nodes) (all ts : List TypeTask) (t : TypeTask) (w : Work) → all ≡ ts ++ t ∷ [] → done b all w ≡ done b ts (act b t w)
done_popped b all ts t w e = ap (λ l. done b l w) e ∙ done_push b ts t w

last_two : (b : Nodes) (old mid new : List TypeTask) (x y : TypeTask) (w : Work) → mid ≡ old ++ x ∷ [] → new ≡ mid ++ y ∷ [] → done b new w ≡ done b old (act b x (act b y w))
last_two b old mid new x y w m n = done_popped b new mid y w n ∙ done_popped b mid old x (act b y w) m

-- as many registers as types
abbrev count : Tys → ℕ
count no_types = 0
count (types t ts) = count ts + 1

count_tys : (ts : List Ty) → count (tys ts) ≡ length ts
count_tys [] = refl
count_tys (t ∷ ts) = omega (arith, count_tys ts)

registers_count : (n : ℕ) (ts : Tys) → length (types_made n ts).registers ≡ count ts
registers_count n no_types = refl
registers_count n (types t ts) = omega (arith, registers_count (type_made n t).next ts)

pub map_length : {A B : Type 0} (f : A → B) (xs : List A) → length (map f xs) ≡ length xs
map_length f [] = refl
map_length f (x ∷ xs) = omega (arith, map_length f xs)

last_append : (rs ss : List ℕ) (n : ℕ) → length ss ≡ n → (last_of n (rs ++ ss) ≡ ss) × (first_of n (rs ++ ss) ≡ rs)
last_append rs ss n e =
    let l : length (rs ++ ss) - n ≡ length rs = omega (arith, length-append rs ss, e) in
    (ap (λ k. drop k (rs ++ ss)) l ∙ dropped rs, ap (λ k. take k (rs ++ ss)) l ∙ taken rs)
  where
    dropped : (xs : List ℕ) → drop (length xs) (xs ++ ss) ≡ ss
    dropped [] = refl
    dropped (x ∷ xs) = dropped xs

    taken : (xs : List ℕ) → take (length xs) (xs ++ ss) ≡ xs
    taken [] = refl
    taken (x ∷ xs) = ap (λ l. x ∷ l) (taken xs)

work_same : (c d : List Piece) (rs ss : List ℕ) (n m : ℕ) → c ≡ d → rs ≡ ss → n ≡ m → (◌≡◌ {A = Work} (record { code = c; made = rs; next = n }) (record { code = d; made = ss; next = m }))
work_same c d rs ss n m e f g = λ i. record { code = e i; made = f i; next = g i }

constructed : (b : Nodes) (k n : ℕ) (ts : Tys) (w : Work) → count ts ≡ n → with_constructor k n (with_types w (types_made w.next ts)) ≡ with_type w (type_made w.next (con k ts))
constructed b k n ts w c =
    let m = types_made w.next ts in
    let l = last_append w.made m.registers n (registers_count w.next ts ∙ c) in
    work_same ((w.code ++ m.code) ++ type_con m.next k (last_of n (w.made ++ m.registers)) ∷ []) (w.code ++ (m.code ++ type_con m.next k m.registers ∷ [])) (first_of n
    (w.made ++ m.registers) ++ m.next ∷ []) (w.made ++ m.next ∷ []) (m.next + 1) (m.next + 1)
    (ap (λ rs. (w.code ++ m.code) ++ type_con m.next k rs ∷ []) l.0 ∙ append_assoc w.code m.code (type_con m.next k m.registers ∷ [])) (ap (λ rs. rs ++ m.next ∷ []) l.1) refl

pub visits_constructor : (b : Nodes) (old mid new : List TypeTask) (rs : List ℕ) (of : TypeView) (k n : ℕ) (ids : Bor (List TypeId)) (at : Option TermId) →
    mid ≡ old ++ on.Constructor k n ∷ [] → new ≡ mid ++ on.Parts ids at ∷ [] → n ≡ length ids.now →
    con k (tys (map (λ p. read_at b at (type_tree b p.0)) ids.now)) ≡ read b of → GivesWay b (on.Visit of) old new rs rs
visits_constructor b old mid new rs of k n ids at m e l r code next =
    let w : Work = record { code = code; made = rs; next = next } in
    let ts = map (λ p. read_at b at (type_tree b p.0)) ids.now in
    last_two b old mid new (on.Constructor k n) (on.Parts ids at) w m e
    ∙ ap (done b old) (constructed b k n (tys ts) w (count_tys ts ∙ map_length (λ p. read_at b at (type_tree b p.0)) ids.now ∙ sym l) ∙ ap (λ T. with_type w (type_made next T)) r)

pushed_two : (rs : List ℕ) (x y : ℕ) → (rs ++ x ∷ []) ++ y ∷ [] ≡ rs ++ x ∷ y ∷ []
pushed_two rs x y = append_assoc rs (x ∷ []) (y ∷ [])

arrow_done : (a c : Ty) (w : Work) → with_arrow (with_type (with_type w (type_made w.next a)) (type_made (type_made w.next a).next c)) ≡ with_type w (type_made w.next (arrow a c))
arrow_done a c w =
    let m = type_made w.next a in
    let n = type_made m.next c in
    let all = pushed_two w.made m.register n.register in
    let l = last_append w.made (m.register ∷ n.register ∷ []) 2 refl in
    let x = ap (last_of 2) all ∙ l.0 in
    let y = ap (first_of 2) all ∙ l.1 in
    work_same _ _ _ _ (n.next + 1) (n.next + 1)
    (ap (λ rs. ((w.code ++ m.code) ++ n.code) ++ type_arrow n.next (slice_index_or rs 0 0) (slice_index_or rs 1 0) ∷ []) x
    ∙ append_assoc (w.code ++ m.code) n.code (type_arrow n.next m.register n.register ∷ []) ∙ append_assoc w.code m.code (n.code ++ type_arrow n.next m.register n.register ∷ []))
    (ap (λ rs. rs ++ n.next ∷ []) y) refl

pub visits_arrow : (b : Nodes) (old mid third new : List TypeTask) (rs : List ℕ) (of from to : TypeView) → mid ≡ old ++ on.Arrow ∷ [] → third ≡ mid ++ on.Visit to ∷ [] →
    new ≡ third ++ on.Visit from ∷ [] →
    arrow (read b from) (read b to) ≡ read b of → GivesWay b (on.Visit of) old new rs rs
visits_arrow b old mid third new rs of from to m t e r code next =
    let w : Work = record { code = code; made = rs; next = next } in
    done_popped b new third (on.Visit from) w e
    ∙ last_two b old mid third on.Arrow (on.Visit to) (act b (on.Visit from) w) m t
    ∙ ap (done b old) (arrow_done (read b from) (read b to) w ∙ ap (λ T. with_type w (type_made next T)) r)

-- a register that is known already
pub visits_known : (b : Nodes) (work : List TypeTask) (old new : List ℕ) (of : TypeView) (r : ℕ) → new ≡ old ++ r ∷ [] → ((n : ℕ) →
    type_made n (read b of) ≡ record { code = []; register = r; next = n }) → GivesWay b (on.Visit of) work work old new
visits_known b work old new of r e k code next =
    ap (done b work) (work_same code (code ++ []) new (old ++ r ∷ []) next next (append_nil_sym code) e refl ∙ ap (with_type (record { code = code; made = old; next = next })) (sym (k next)))

pub parts_none : (b : Nodes) (work : List TypeTask) (at : Option TermId) (ids : Bor (List TypeId)) → ids.now ≡ [] → (made : List ℕ) → GivesWay b (on.Parts ids at) work work made made
parts_none b work at ids e made code next =
    ap (done b work) (work_same code (code ++ []) made (made ++ []) next next (append_nil_sym code) (append_nil_sym made) refl
    ∙ ap (λ l. with_types (record { code = code; made = made; next = next }) (types_made next (tys (map (λ p. read_at b at (type_tree b p.0)) l)))) (sym e))

part_done : (b : Nodes) (T : Ty) (Ts : Tys) (w : Work) → with_types (with_type w (type_made w.next T)) (types_made (type_made w.next T).next Ts) ≡ with_types w (types_made w.next (types T Ts))
part_done b T Ts w =
    let m = type_made w.next T in
    let n = types_made m.next Ts in
    work_same ((w.code ++ m.code) ++ n.code) (w.code ++ (m.code ++ n.code)) ((w.made ++ m.register ∷ []) ++ n.registers) (w.made ++ m.register ∷ n.registers) n.next n.next
    (append_assoc w.code m.code n.code) (append_assoc w.made (m.register ∷ []) n.registers) refl

pub parts_first : (b : Nodes) (old mid new : List TypeTask) (at : Option TermId) (ids rest : Bor (List TypeId)) (first : TypeId) (of : TypeView) → ids.now ≡ first ∷ rest.now →
    mid ≡ old ++ on.Parts rest at ∷ [] → new ≡ mid ++ on.Visit of ∷ [] →
    read b of ≡ read_at b at (type_tree b first.0) → (made : List ℕ) → GivesWay b (on.Parts ids at) old new made made
parts_first b old mid new at ids rest first of i m e r made code next =
    let w : Work = record { code = code; made = made; next = next } in
    last_two b old mid new (on.Parts rest at) (on.Visit of) w m e
    ∙ ap (λ T. done b old (act b (on.Parts rest at) (with_type w (type_made next T)))) r
    ∙ ap (done b old) (part_done b (read_at b at (type_tree b first.0)) (tys (map (λ p. read_at b at (type_tree b p.0)) rest.now)) w
    ∙ ap (λ l. with_types w (types_made next (tys (map (λ p. read_at b at (type_tree b p.0)) l)))) (sym i))

pub type_begins : (b : Nodes) (e : Emitter) (of : TypeView) (none work : List TypeTask) (made : List ℕ) → work ≡ none ++ on.Visit of ∷ [] → none ≡ [] → made ≡ [] →
    done b work (work_now e made) ≡ act b (on.Visit of) (work_now e [])
type_begins b e of none work made w n m = done_popped b work none (on.Visit of) (work_now e made) w ∙ ap (λ l. done b l (act b (on.Visit of) (work_now e made))) n
    ∙ ap (λ l. act b (on.Visit of) (work_now e l)) m
