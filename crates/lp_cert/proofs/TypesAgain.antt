-- What is spelled as a type is read again.
use Rattle.std.proofs.Common.{◌≡◌, ℕ, zero, suc, ◌+◌, ◌^◌, ◌<◌, ◌≤◌, Bool, true, false, cond, eqb, List, [], ◌∷◌, ◌++◌, length, take, drop, replicate, Option, Some, None, Result, Ok, Err, refl, sym, ap, subst, ◌∙◌, append_assoc, arith}
use Rattle.std.specs.Prelude.{⊤}
use Rattle.std.specs.List.{flat_map, AllByRecursion}
use Rattle.std.proofs.lemmas.List.{append-nil, length-append, take_at, drop_at}
use Rattle.std.proofs.lemmas.Grind.{flat_map-append}
use Rattle.lp_calculus.specs.Types.{Ty, Tys, var, param, con, arrow, tys, no_types, types}
use Rattle.lp_bytes.specs.declared.fault.Fault.{Fault}
use Rattle.lp_bytes.specs.declared.fault.Fault.TheVariants.{BadField}
use Rattle.lp_bytes.specs.Numbers.{spelled_four}
use Rattle.lp_bytes.specs.Spellable.{AreWhole}
use Rattle.lp_bytes.specs.Reading.{Left, left, Read, ◌>>=◌, byte_at, four_at, each_at, nested_at}
use Rattle.lp_bytes.proofs.Again.{Runs, bind_runs, runs_as, next, byte_again, four_again, each_again, nested_again}
use Rattle.lp_cert.specs.Arities.{Counts, count_of_kind}
use Rattle.lp_cert.specs.Spelling.{spelled_type, spelled_types}
use Rattle.lp_cert.specs.Spellable.{how_many, IsType, AreTypes}
use Rattle.lp_cert.specs.Reading.{as_read, first_of, TypeTop, parameter, kind, an_arrow, types_below, kind_top_at, type_top_at, type_tops_at, with_type_top, types_made, type_at, types_at}
use Rattle.lp_cert.specs.inner.Tops.{spelled_type_top, IsTypeTop, type_tops, tops_of_each}
use Rattle.lp_cert.proofs.TypesFound.{some_bytes}

-- ---- one top

abbrev after_byte : Counts → ℕ → ℕ × Left → Read TypeTop
after_byte d at b =
    cond (eqb b.0 0) (as_read parameter (four_at b.1)) (cond (eqb b.0 1) (four_at b.1 >>= λ k. kind_top_at b.1.at k.0 (count_of_kind d k.0) k.1) (cond (eqb b.0 2) (Ok (an_arrow, b.1)) (Err (BadField at))))

top_again : (d : Counts) (one : ⊤) (x : TypeTop) (s : Left) (rest : List ℕ) → IsTypeTop d one x → s.rest ≡ spelled_type_top x ++ rest → Runs (type_top_at d s) x rest
unfolding type_top_at
top_again d one (parameter v) s rest h e =
    bind_runs (byte_at s) (λ b. after_byte d s.at b) 0 (spelled_four v ++ rest) (parameter v) rest (byte_again 0 s (spelled_four v ++ rest) e)
    (λ t i. bind_runs (four_at t) (λ v. Ok (parameter v.0, v.1)) v rest (parameter v) rest (four_again v t rest h i) (λ u j. (u, refl, j)))
top_again d one (kind k n) s rest h e =
    bind_runs (byte_at s) (λ b. after_byte d s.at b) 1 (spelled_four k ++ rest) (kind k n) rest (byte_again 1 s (spelled_four k ++ rest) e)
    (λ t i. bind_runs (four_at t) (λ k. kind_top_at t.at k.0 (count_of_kind d k.0) k.1) k rest (kind k n) rest (four_again k t rest h.0 i) (λ u j. (u, ap (λ o. kind_top_at t.at k o u) h.1, j)))
top_again d one an_arrow s rest h e = bind_runs (byte_at s) (λ b. after_byte d s.at b) 2 rest an_arrow rest (byte_again 2 s rest e) (λ t i. (t, refl, i))

-- ---- the tops of a type

bytes_of_both : (xs ys : List TypeTop) (x y : List ℕ) → flat_map spelled_type_top xs ≡ x → flat_map spelled_type_top ys ≡ y → flat_map spelled_type_top (xs ++ ys) ≡ x ++ y
bytes_of_both xs ys x y e f = flat_map-append spelled_type_top xs ys ∙ (λ i. e i ++ f i)

-- they are the bytes of the type
mutual
  tops_bytes : (T : Ty) → flat_map spelled_type_top (type_tops T) ≡ spelled_type T
  tops_bytes (var v) = append-nil (0 ∷ spelled_four v)
  tops_bytes (param v) = append-nil (0 ∷ spelled_four v)
  tops_bytes (con k ts) = ap (λ x. 1 ∷ spelled_four k ++ x) (each_bytes ts)
  tops_bytes (arrow a b) = ap (λ x. 2 ∷ x) (bytes_of_both (type_tops a) (type_tops b) (spelled_type a) (spelled_type b) (tops_bytes a) (tops_bytes b))

  each_bytes : (ts : Tys) → flat_map spelled_type_top (tops_of_each ts) ≡ spelled_types ts
  each_bytes no_types = refl
  each_bytes (types t ts) = bytes_of_both (type_tops t) (tops_of_each ts) (spelled_type t) (spelled_types ts) (tops_bytes t) (each_bytes ts)

-- they are whole
mutual
  tops_whole : (d : Counts) (T : Ty) (to_come : List ⊤) (us : List TypeTop) → IsType d T → AreWhole types_below (IsTypeTop d) to_come us → AreWhole types_below (IsTypeTop d) (tt ∷ to_come) (type_tops T ++ us)
  tops_whole d (var v) to_come us h w = absurd h
  tops_whole d (param v) to_come us h w = (h, w)
  tops_whole d (con k ts) to_come us h w = ((h.0, h.1), each_whole d ts to_come us h.2 w)
  tops_whole d (arrow a b) to_come us h w =
      (tt, subst (AreWhole types_below (IsTypeTop d) (tt ∷ tt ∷ to_come)) (sym (append_assoc (type_tops a) (type_tops b) us)) (tops_whole d a (tt ∷ to_come) (type_tops b ++ us) h.0 (tops_whole d b to_come us h.1 w)))

  each_whole : (d : Counts) (ts : Tys) (to_come : List ⊤) (us : List TypeTop) → AreTypes d ts → AreWhole types_below (IsTypeTop d) to_come us → AreWhole types_below (IsTypeTop d) (replicate (how_many ts) tt ++ to_come) (tops_of_each ts ++ us)
  each_whole d no_types to_come us h w = w
  each_whole d (types t ts) to_come us h w =
      subst (AreWhole types_below (IsTypeTop d) (tt ∷ (replicate (how_many ts) tt ++ to_come))) (sym (append_assoc (type_tops t) (tops_of_each ts) us))
      (tops_whole d t (replicate (how_many ts) tt ++ to_come) (tops_of_each ts ++ us) h.0 (each_whole d ts to_come us h.1 w))

abbrev list_of : Tys → List Ty
list_of no_types = []
list_of (types t ts) = t ∷ list_of ts

listed : (ts : Tys) → tys (list_of ts) ≡ ts
listed no_types = refl
listed (types t ts) = ap (types t) (listed ts)

counted : (ts : Tys) → length (list_of ts) ≡ how_many ts
counted no_types = refl
counted (types t ts) = ap suc (counted ts)

made_kind : (k : ℕ) (ts : Tys) (us : List TypeTop) (vs : List Ty) → vs ≡ list_of ts ++ types_made us → with_type_top (kind k (how_many ts)) vs ≡ con k ts ∷ types_made us
made_kind k ts us vs e =
    let front : take (how_many ts) vs ≡ list_of ts = ap (take (how_many ts)) e ∙ take_at (list_of ts) (types_made us) (how_many ts) (counted ts) in
    let back : drop (how_many ts) vs ≡ types_made us = ap (drop (how_many ts)) e ∙ drop_at (list_of ts) (types_made us) (how_many ts) (counted ts) in
    λ i. con k ((ap tys front ∙ listed ts) i) ∷ back i

-- and they make the type
mutual
  tops_make : (d : Counts) (T : Ty) (us : List TypeTop) → IsType d T → types_made (type_tops T ++ us) ≡ T ∷ types_made us
  tops_make d (var v) us h = absurd h
  tops_make d (param v) us h = refl
  tops_make d (con k ts) us h = made_kind k ts us (types_made (tops_of_each ts ++ us)) (each_make d ts us h.2)
  tops_make d (arrow a b) us h =
      ap (λ z. with_type_top an_arrow (types_made z)) (append_assoc (type_tops a) (type_tops b) us)
      ∙ ap (with_type_top an_arrow) (tops_make d a (type_tops b ++ us) h.0 ∙ ap (λ z. a ∷ z) (tops_make d b us h.1))

  each_make : (d : Counts) (ts : Tys) (us : List TypeTop) → AreTypes d ts → types_made (tops_of_each ts ++ us) ≡ list_of ts ++ types_made us
  each_make d no_types us h = refl
  each_make d (types t ts) us h =
      ap types_made (append_assoc (type_tops t) (tops_of_each ts) us) ∙ tops_make d t (tops_of_each ts ++ us) h.0 ∙ ap (λ z. t ∷ z) (each_make d ts us h.1)

tops_long : (us : List TypeTop) → length us ≤ length (flat_map spelled_type_top us)
tops_long [] = omega arith
tops_long (u ∷ us) = omega (arith, tops_long us, some_bytes u, length-append (spelled_type_top u) (flat_map spelled_type_top us))

pub type_again : (d : Counts) (T : Ty) (s : Left) (rest : List ℕ) → IsType d T → s.rest ≡ spelled_type T ++ rest → Runs (type_at d s) T rest
unfolding type_at type_tops_at
type_again d T s rest h e =
    let us = type_tops T in
    let alone : us ++ [] ≡ us = append-nil us in
    let whole : AreWhole types_below (IsTypeTop d) (tt ∷ []) us = subst (AreWhole types_below (IsTypeTop d) (tt ∷ [])) alone (tops_whole d T [] [] h tt) in
    let text : s.rest ≡ flat_map spelled_type_top us ++ rest = e ∙ ap (λ x. x ++ rest) (sym (tops_bytes T)) in
    let total : length s.rest ≡ length (flat_map spelled_type_top us) + length rest = ap length text ∙ length-append (flat_map spelled_type_top us) rest in
    let made : types_made us ≡ T ∷ [] = ap types_made (sym alone) ∙ tops_make d T [] h in
    bind_runs (type_tops_at d s) (λ ts. first_of s.at (types_made ts.0) ts.1) us rest T rest
    (nested_again (λ one. type_top_at d) types_below spelled_type_top (IsTypeTop d) (λ one x u v i j. top_again d one x u v i j) us [] (suc (length s.rest)) (tt ∷ []) s rest whole (omega (arith, total, tops_long us)) text)
    (λ t i. (t, ap (λ ts. first_of s.at ts t) made, i))

pub types_again : (d : Counts) (ts : List Ty) (n : ℕ) (s : Left) (rest : List ℕ) → length ts ≡ n → AllByRecursion (IsType d) ts → s.rest ≡ flat_map spelled_type ts ++ rest → Runs (types_at d n s) ts rest
unfolding types_at
types_again d ts n s rest len h e =
    subst (λ m. Runs (each_at (λ before. type_at d) [] m s) ts rest) len (each_again (λ before. type_at d) spelled_type (IsType d) (λ before x u v i j. type_again d x u v i j) ts [] s rest h e)
