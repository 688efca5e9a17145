-- What is spelled as a type is read again.
use Rattle.std.proofs.Common.{◌≡◌, ℕ, suc, ◌+◌, ◌≤◌, cond, eqb, List, [], ◌∷◌, ◌++◌, length, take, drop, replicate, Ok, Err, refl, sym, ap, subst, ◌∙◌, append_assoc, arith}
use Rattle.std.specs.Prelude.{⊤}
use Rattle.std.specs.List.{flat_map}
use Rattle.std.proofs.lemmas.Bool.{lt-ltb}
use Rattle.std.proofs.lemmas.List.{append-nil, length-append, take_at, drop_at}
use Rattle.std.proofs.lemmas.Grind.{flat_map-append}
use Rattle.lp_calculus.specs.Types.{Ty, Tys, var, param, con, arrow, tys, no_types, types}
use Rattle.lp_bytes.specs.declared.fault.Fault.TheVariants.{BadField}
use Rattle.lp_bytes.specs.Numbers.{spelled_one}
use Rattle.lp_bytes.specs.Spellable.{AreWhole}
use Rattle.lp_bytes.specs.Reading.{Left, Read, ◌>>=◌, byte_at}
use Rattle.lp_bytes.proofs.Again.{Runs, bind_runs, byte_again, nested_again}
use Rattle.lp_object.specs.declared.width.Width.{Width}
use Rattle.lp_object.specs.Numbers.{spelled_number}
use Rattle.lp_object.specs.Spelling.{spelled_type, spelled_types}
use Rattle.lp_object.specs.Spellable.{how_many, IsType, AreTypes}
use Rattle.lp_object.specs.Reading.{number_at, first_of, Scope, arity_of, TypeTop, variable, kind, an_arrow, types_below, kind_top_at, type_top_at, type_tops_at, with_type_top, types_made, type_at}
use Rattle.lp_object.specs.inner.Tops.{spelled_type_top, IsTypeTop, type_tops, tops_of_each}
use Rattle.lp_object.proofs.FieldsFound.{low_byte}
use Rattle.lp_object.proofs.FieldsAgain.{number_again}
use Rattle.lp_object.proofs.TypesFound.{some_bytes, variable_in}

-- ---- one top

abbrev after_byte : Scope → ℕ → ℕ × Left → Read TypeTop
after_byte d at b =
    cond (eqb b.0 0) (byte_at b.1 >>= λ v. variable_in d b.1.at v) (cond (eqb b.0 1) (number_at d.width b.1 >>= λ k. kind_top_at b.1.at k.0 (arity_of d.arities k.0) k.1) (cond (eqb b.0 2) (Ok (an_arrow, b.1)) (Err (BadField at))))

top_again : (d : Scope) (one : ⊤) (x : TypeTop) (s : Left) (rest : List ℕ) → IsTypeTop d one x → s.rest ≡ spelled_type_top d.width x ++ rest → Runs (type_top_at d s) x rest
unfolding type_top_at
top_again d one (variable v) s rest h e =
    let front : s.rest ≡ 0 ∷ (v ∷ rest) = e ∙ ap (λ x. 0 ∷ x ++ rest) (low_byte v h.1) in
    bind_runs (byte_at s) (λ b. after_byte d s.at b) 0 (v ∷ rest) (variable v) rest (byte_again 0 s (v ∷ rest) front)
    (λ t i. bind_runs (byte_at t) (λ v. variable_in d t.at v) v rest (variable v) rest (byte_again v t rest i) (λ u j. (u, ap (λ b. cond b (Ok (variable v, u)) (Err (BadField t.at))) (lt-ltb v d.variables h.0), j)))
top_again d one (kind k n) s rest h e =
    bind_runs (byte_at s) (λ b. after_byte d s.at b) 1 (spelled_number d.width k ++ rest) (kind k n) rest (byte_again 1 s (spelled_number d.width k ++ rest) e)
    (λ t i. bind_runs (number_at d.width t) (λ k. kind_top_at t.at k.0 (arity_of d.arities k.0) k.1) k rest (kind k n) rest (number_again d.width k t rest h.0 i) (λ u j. (u, ap (λ o. kind_top_at t.at k o u) h.1, j)))
top_again d one an_arrow s rest h e = bind_runs (byte_at s) (λ b. after_byte d s.at b) 2 rest an_arrow rest (byte_again 2 s rest e) (λ t i. (t, refl, i))

-- ---- the tops of a type

bytes_of_both : (w : Width) (xs ys : List TypeTop) (x y : List ℕ) → flat_map (spelled_type_top w) xs ≡ x → flat_map (spelled_type_top w) ys ≡ y → flat_map (spelled_type_top w) (xs ++ ys) ≡ x ++ y
bytes_of_both w xs ys x y e f = flat_map-append (spelled_type_top w) xs ys ∙ (λ i. e i ++ f i)

-- they are the bytes of the type
mutual
  tops_bytes : (w : Width) (T : Ty) → flat_map (spelled_type_top w) (type_tops T) ≡ spelled_type w T
  tops_bytes w (var v) = append-nil (0 ∷ spelled_one v)
  tops_bytes w (param v) = append-nil (0 ∷ spelled_one v)
  tops_bytes w (con k ts) = ap (λ x. 1 ∷ spelled_number w k ++ x) (each_bytes w ts)
  tops_bytes w (arrow a b) = ap (λ x. 2 ∷ x) (bytes_of_both w (type_tops a) (type_tops b) (spelled_type w a) (spelled_type w b) (tops_bytes w a) (tops_bytes w b))

  each_bytes : (w : Width) (ts : Tys) → flat_map (spelled_type_top w) (tops_of_each ts) ≡ spelled_types w ts
  each_bytes w no_types = refl
  each_bytes w (types t ts) = bytes_of_both w (type_tops t) (tops_of_each ts) (spelled_type w t) (spelled_types w ts) (tops_bytes w t) (each_bytes w ts)

-- they are whole
mutual
  tops_whole : (d : Scope) (T : Ty) (to_come : List ⊤) (us : List TypeTop) → IsType d T → AreWhole types_below (IsTypeTop d) to_come us → AreWhole types_below (IsTypeTop d) (tt ∷ to_come) (type_tops T ++ us)
  tops_whole d (var v) to_come us h w = (h, w)
  tops_whole d (param v) to_come us h w = absurd h
  tops_whole d (con k ts) to_come us h w = ((h.0, h.1), each_whole d ts to_come us h.2 w)
  tops_whole d (arrow a b) to_come us h w =
      (tt, subst (AreWhole types_below (IsTypeTop d) (tt ∷ tt ∷ to_come)) (sym (append_assoc (type_tops a) (type_tops b) us)) (tops_whole d a (tt ∷ to_come) (type_tops b ++ us) h.0 (tops_whole d b to_come us h.1 w)))

  each_whole : (d : Scope) (ts : Tys) (to_come : List ⊤) (us : List TypeTop) → AreTypes d ts → AreWhole types_below (IsTypeTop d) to_come us → AreWhole types_below (IsTypeTop d) (replicate (how_many ts) tt ++ to_come) (tops_of_each ts ++ us)
  each_whole d no_types to_come us h w = w
  each_whole d (types t ts) to_come us h w =
      subst (AreWhole types_below (IsTypeTop d) (tt ∷ (replicate (how_many ts) tt ++ to_come))) (sym (append_assoc (type_tops t) (tops_of_each ts) us))
      (tops_whole d t (replicate (how_many ts) tt ++ to_come) (tops_of_each ts ++ us) h.0 (each_whole d ts to_come us h.1 w))

abbrev list_of : Tys → List Ty
list_of no_types = []
list_of (types t ts) = t ∷ list_of ts

listed : (ts : Tys) → tys (list_of ts) ≡ ts
listed no_types = refl
listed (types t ts) = ap (types t) (listed ts)

counted : (ts : Tys) → length (list_of ts) ≡ how_many ts
counted no_types = refl
counted (types t ts) = ap suc (counted ts)

made_kind : (k : ℕ) (ts : Tys) (us : List TypeTop) (vs : List Ty) → vs ≡ list_of ts ++ types_made us → with_type_top (kind k (how_many ts)) vs ≡ con k ts ∷ types_made us
made_kind k ts us vs e =
    let front : take (how_many ts) vs ≡ list_of ts = ap (take (how_many ts)) e ∙ take_at (list_of ts) (types_made us) (how_many ts) (counted ts) in
    let back : drop (how_many ts) vs ≡ types_made us = ap (drop (how_many ts)) e ∙ drop_at (list_of ts) (types_made us) (how_many ts) (counted ts) in
    λ i. con k ((ap tys front ∙ listed ts) i) ∷ back i

-- and they make the type
mutual
  tops_make : (d : Scope) (T : Ty) (us : List TypeTop) → IsType d T → types_made (type_tops T ++ us) ≡ T ∷ types_made us
  tops_make d (var v) us h = refl
  tops_make d (param v) us h = absurd h
  tops_make d (con k ts) us h = made_kind k ts us (types_made (tops_of_each ts ++ us)) (each_make d ts us h.2)
  tops_make d (arrow a b) us h =
      ap (λ z. with_type_top an_arrow (types_made z)) (append_assoc (type_tops a) (type_tops b) us)
      ∙ ap (with_type_top an_arrow) (tops_make d a (type_tops b ++ us) h.0 ∙ ap (λ z. a ∷ z) (tops_make d b us h.1))

  each_make : (d : Scope) (ts : Tys) (us : List TypeTop) → AreTypes d ts → types_made (tops_of_each ts ++ us) ≡ list_of ts ++ types_made us
  each_make d no_types us h = refl
  each_make d (types t ts) us h =
      ap types_made (append_assoc (type_tops t) (tops_of_each ts) us) ∙ tops_make d t (tops_of_each ts ++ us) h.0 ∙ ap (λ z. t ∷ z) (each_make d ts us h.1)

tops_long : (w : Width) (us : List TypeTop) → length us ≤ length (flat_map (spelled_type_top w) us)
tops_long w [] = omega arith
tops_long w (u ∷ us) = omega (arith, tops_long w us, some_bytes w u, length-append (spelled_type_top w u) (flat_map (spelled_type_top w) us))

pub type_again : (d : Scope) (T : Ty) (s : Left) (rest : List ℕ) → IsType d T → s.rest ≡ spelled_type d.width T ++ rest → Runs (type_at d s) T rest
unfolding type_at type_tops_at
type_again d T s rest h e =
    let us = type_tops T in
    let alone : us ++ [] ≡ us = append-nil us in
    let whole : AreWhole types_below (IsTypeTop d) (tt ∷ []) us = subst (AreWhole types_below (IsTypeTop d) (tt ∷ [])) alone (tops_whole d T [] [] h tt) in
    let text : s.rest ≡ flat_map (spelled_type_top d.width) us ++ rest = e ∙ ap (λ x. x ++ rest) (sym (tops_bytes d.width T)) in
    let total : length s.rest ≡ length (flat_map (spelled_type_top d.width) us) + length rest = ap length text ∙ length-append (flat_map (spelled_type_top d.width) us) rest in
    let made : types_made us ≡ T ∷ [] = ap types_made (sym alone) ∙ tops_make d T [] h in
    bind_runs (type_tops_at d s) (λ ts. first_of s.at (types_made ts.0) ts.1) us rest T rest
    (nested_again (λ one. type_top_at d) types_below (spelled_type_top d.width) (IsTypeTop d) (λ one x u v i j. top_again d one x u v i j) us [] (suc (length s.rest)) (tt ∷ []) s rest whole (omega (arith, total, tops_long d.width us)) text)
    (λ t i. (t, ap (λ ts. first_of s.at ts t) made, i))
