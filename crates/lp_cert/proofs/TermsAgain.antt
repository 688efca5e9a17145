-- What is spelled as a term is read again.
use Rattle.std.proofs.Common.{◌≡◌, ℕ, zero, suc, ◌+◌, ◌^◌, ◌<◌, ◌≤◌, Bool, true, false, cond, eqb, List, [], ◌∷◌, ◌++◌, length, Option, Some, None, Result, Ok, Err, refl, sym, ap, subst, ◌∙◌, append_assoc, arith}
use Rattle.std.specs.Prelude.{⊤}
use Rattle.std.specs.List.{flat_map, AllByRecursion}
use Rattle.std.proofs.lemmas.List.{append-nil, length-append}
use Rattle.std.proofs.lemmas.Grind.{flat_map-append}
use Rattle.lp_calculus.specs.Types.{Ty}
use Rattle.lp_calculus.specs.Term.{Term, Atom, index, atom, abs, app, constant, integer, text, eigen, logic}
use Rattle.lp_calculus.specs.Term as term
use Rattle.lp_bytes.specs.declared.fault.Fault.{Fault}
use Rattle.lp_bytes.specs.declared.fault.Fault.TheVariants.{BadField}
use Rattle.lp_bytes.specs.Numbers.{spelled_four, spelled_integer, spelled_long_text}
use Rattle.lp_bytes.specs.Spellable.{AreWhole}
use Rattle.lp_bytes.specs.Reading.{Left, left, Read, ◌>>=◌, byte_at, four_at, integer_at, long_text_at, each_at, nested_at}
use Rattle.lp_bytes.proofs.Again.{Runs, bind_runs, runs_as, next, byte_again, four_again, integer_again, long_text_again, each_again, nested_again}
use Rattle.lp_cert.specs.Arities.{Counts, count_of_constant}
use Rattle.lp_cert.specs.Spelling.{spelled_type, spelled_atom, spelled_term}
use Rattle.lp_cert.specs.Spellable.{IsType, IsAtom, IsTerm}
use Rattle.lp_cert.specs.Reading.{as_read, first_of, type_at, types_at, TermTop, leaf, an_abstraction, an_application, terms_below, typed_constant_at, constant_at, parameter_at, leaf_at, term_top_at, term_tops_at, with_term_top, terms_made, term_at, terms_at}
use Rattle.lp_cert.specs.inner.Tops.{spelled_term_top, IsLeaf, IsTermTop, term_tops}
use Rattle.lp_cert.proofs.TermsFound.{some_bytes}
use Rattle.lp_cert.proofs.TypesAgain.{type_again, types_again}

pub read_as : {A B : Type 0} (g : A → B) (r : Read A) (x : A) (rest : List ℕ) → Runs r x rest → Runs (as_read g r) (g x) rest
read_as g r x rest p = bind_runs r (λ z. Ok (g z.0, z.1)) x rest (g x) rest p (λ t i. (t, refl, i))

-- ---- leaves

abbrev after_byte : Counts → ℕ → ℕ × Left → Read TermTop
after_byte d at b = cond (eqb b.0 6) (Ok (an_abstraction, b.1)) (cond (eqb b.0 7) (Ok (an_application, b.1)) (as_read leaf (leaf_at d at b.0 b.1)))

constant_again : (d : Counts) (c : ℕ) (ts : List Ty) (s : Left) (rest : List ℕ) → IsAtom d (constant c ts) → s.rest ≡ (spelled_four c ++ flat_map spelled_type ts) ++ rest → Runs (constant_at d s) (atom (constant c ts)) rest
unfolding constant_at
constant_again d c ts s rest h e =
    let T = flat_map spelled_type ts in
    bind_runs (four_at s) (λ c. typed_constant_at d s.at c.0 (count_of_constant d c.0) c.1) c (T ++ rest) (atom (constant c ts)) rest (four_again c s (T ++ rest) h.0 (next s (spelled_four c) T rest e))
    (λ t i. runs_as (typed_constant_at d s.at c (Some (length ts)) t) (typed_constant_at d s.at c (count_of_constant d c) t) (atom (constant c ts)) rest (ap (λ o. typed_constant_at d s.at c o t) h.1)
    (read_as (λ ts. atom (constant c ts)) (types_at d (length ts) t) ts rest (types_again d ts (length ts) t rest refl h.2 i)))

parameter_again : (d : Counts) (k : ℕ) (T : Ty) (s : Left) (rest : List ℕ) → IsAtom d (term.param k T) → s.rest ≡ (spelled_four k ++ spelled_type T) ++ rest → Runs (parameter_at d s) (atom (term.param k T)) rest
unfolding parameter_at
parameter_again d k T s rest h e =
    bind_runs (four_at s) (λ k. as_read (λ t. atom (term.param k.0 t)) (type_at d k.1)) k (spelled_type T ++ rest) (atom (term.param k T)) rest (four_again k s (spelled_type T ++ rest) h.0 (next s (spelled_four k) (spelled_type T) rest e))
    (λ t i. read_as (λ t. atom (term.param k t)) (type_at d t) T rest (type_again d T t rest h.1 i))

leaf_again : (d : Counts) (x : Term) (s : Left) (rest : List ℕ) → IsLeaf d x → s.rest ≡ spelled_term x ++ rest → Runs (term_top_at d s) (leaf x) rest
unfolding term_top_at leaf_at
leaf_again d (index i) s rest h e =
    bind_runs (byte_at s) (λ b. after_byte d s.at b) 0 (spelled_four i ++ rest) (leaf (index i)) rest (byte_again 0 s (spelled_four i ++ rest) e)
    (λ t j. read_as leaf (as_read index (four_at t)) (index i) rest (read_as index (four_at t) i rest (four_again i t rest h j)))
leaf_again d (atom (constant c ts)) s rest h e =
    let R = (spelled_four c ++ flat_map spelled_type ts) ++ rest in
    bind_runs (byte_at s) (λ b. after_byte d s.at b) 1 R (leaf (atom (constant c ts))) rest (byte_again 1 s R e)
    (λ t j. read_as leaf (constant_at d t) (atom (constant c ts)) rest (constant_again d c ts t rest h j))
leaf_again d (atom (integer z)) s rest h e =
    bind_runs (byte_at s) (λ b. after_byte d s.at b) 2 (spelled_integer z ++ rest) (leaf (atom (integer z))) rest (byte_again 2 s (spelled_integer z ++ rest) e)
    (λ t j. read_as leaf (as_read (λ z. atom (integer z)) (integer_at t)) (atom (integer z)) rest (read_as (λ z. atom (integer z)) (integer_at t) z rest (integer_again z t rest h j)))
leaf_again d (atom (text x)) s rest h e =
    bind_runs (byte_at s) (λ b. after_byte d s.at b) 3 (spelled_long_text x ++ rest) (leaf (atom (text x))) rest (byte_again 3 s (spelled_long_text x ++ rest) e)
    (λ t j. read_as leaf (as_read (λ x. atom (text x)) (long_text_at t)) (atom (text x)) rest (read_as (λ x. atom (text x)) (long_text_at t) x rest (long_text_again x t rest h j)))
leaf_again d (atom (eigen k)) s rest h e =
    bind_runs (byte_at s) (λ b. after_byte d s.at b) 4 (spelled_four k ++ rest) (leaf (atom (eigen k))) rest (byte_again 4 s (spelled_four k ++ rest) e)
    (λ t j. read_as leaf (as_read (λ k. atom (eigen k)) (four_at t)) (atom (eigen k)) rest (read_as (λ k. atom (eigen k)) (four_at t) k rest (four_again k t rest h j)))
leaf_again d (atom (logic v level)) s rest h e = absurd h
leaf_again d (atom (term.param k T)) s rest h e =
    let R = (spelled_four k ++ spelled_type T) ++ rest in
    bind_runs (byte_at s) (λ b. after_byte d s.at b) 5 R (leaf (atom (term.param k T))) rest (byte_again 5 s R e)
    (λ t j. read_as leaf (parameter_at d t) (atom (term.param k T)) rest (parameter_again d k T t rest h j))
leaf_again d (abs t) s rest h e = absurd h
leaf_again d (app t u) s rest h e = absurd h

top_again : (d : Counts) (one : ⊤) (x : TermTop) (s : Left) (rest : List ℕ) → IsTermTop d one x → s.rest ≡ spelled_term_top x ++ rest → Runs (term_top_at d s) x rest
unfolding term_top_at
top_again d one (leaf t) s rest h e = leaf_again d t s rest h e
top_again d one an_abstraction s rest h e = bind_runs (byte_at s) (λ b. after_byte d s.at b) 6 rest an_abstraction rest (byte_again 6 s rest e) (λ t i. (t, refl, i))
top_again d one an_application s rest h e = bind_runs (byte_at s) (λ b. after_byte d s.at b) 7 rest an_application rest (byte_again 7 s rest e) (λ t i. (t, refl, i))

-- ---- the tops of a term

-- they are the bytes of the term
tops_bytes : (T : Term) → flat_map spelled_term_top (term_tops T) ≡ spelled_term T
tops_bytes (index i) = append-nil (spelled_term (index i))
tops_bytes (atom a) = append-nil (spelled_atom a)
tops_bytes (abs t) = ap (λ x. 6 ∷ x) (tops_bytes t)
tops_bytes (app t u) = ap (λ x. 7 ∷ x) (flat_map-append spelled_term_top (term_tops t) (term_tops u) ∙ (λ i. tops_bytes t i ++ tops_bytes u i))

-- they are whole
tops_whole : (d : Counts) (T : Term) (to_come : List ⊤) (us : List TermTop) → IsTerm d T → AreWhole terms_below (IsTermTop d) to_come us → AreWhole terms_below (IsTermTop d) (tt ∷ to_come) (term_tops T ++ us)
tops_whole d (index i) to_come us h w = (h, w)
tops_whole d (atom a) to_come us h w = (h, w)
tops_whole d (abs t) to_come us h w = (tt, tops_whole d t to_come us h w)
tops_whole d (app t u) to_come us h w =
    (tt, subst (AreWhole terms_below (IsTermTop d) (tt ∷ tt ∷ to_come)) (sym (append_assoc (term_tops t) (term_tops u) us)) (tops_whole d t (tt ∷ to_come) (term_tops u ++ us) h.0 (tops_whole d u to_come us h.1 w)))

-- and they make the term
tops_make : (T : Term) (us : List TermTop) → terms_made (term_tops T ++ us) ≡ T ∷ terms_made us
tops_make (index i) us = refl
tops_make (atom a) us = refl
tops_make (abs t) us = ap (with_term_top an_abstraction) (tops_make t us)
tops_make (app t u) us =
    ap (λ z. with_term_top an_application (terms_made z)) (append_assoc (term_tops t) (term_tops u) us) ∙ ap (with_term_top an_application) (tops_make t (term_tops u ++ us) ∙ ap (λ z. t ∷ z) (tops_make u us))

tops_long : (us : List TermTop) → length us ≤ length (flat_map spelled_term_top us)
tops_long [] = omega arith
tops_long (u ∷ us) = omega (arith, tops_long us, some_bytes u, length-append (spelled_term_top u) (flat_map spelled_term_top us))

pub term_again : (d : Counts) (T : Term) (s : Left) (rest : List ℕ) → IsTerm d T → s.rest ≡ spelled_term T ++ rest → Runs (term_at d s) T rest
unfolding term_at term_tops_at
term_again d T s rest h e =
    let us = term_tops T in
    let alone : us ++ [] ≡ us = append-nil us in
    let whole : AreWhole terms_below (IsTermTop d) (tt ∷ []) us = subst (AreWhole terms_below (IsTermTop d) (tt ∷ [])) alone (tops_whole d T [] [] h tt) in
    let text : s.rest ≡ flat_map spelled_term_top us ++ rest = e ∙ ap (λ x. x ++ rest) (sym (tops_bytes T)) in
    let total : length s.rest ≡ length (flat_map spelled_term_top us) + length rest = ap length text ∙ length-append (flat_map spelled_term_top us) rest in
    let made : terms_made us ≡ T ∷ [] = ap terms_made (sym alone) ∙ tops_make T [] in
    bind_runs (term_tops_at d s) (λ ts. first_of s.at (terms_made ts.0) ts.1) us rest T rest
    (nested_again (λ one. term_top_at d) terms_below spelled_term_top (IsTermTop d) (λ one x u v i j. top_again d one x u v i j) us [] (suc (length s.rest)) (tt ∷ []) s rest whole (omega (arith, total, tops_long us)) text)
    (λ t i. (t, ap (λ ts. first_of s.at ts t) made, i))

pub terms_again : (d : Counts) (ts : List Term) (n : ℕ) (s : Left) (rest : List ℕ) → length ts ≡ n → AllByRecursion (IsTerm d) ts → s.rest ≡ flat_map spelled_term ts ++ rest → Runs (terms_at d n s) ts rest
unfolding terms_at
terms_again d ts n s rest len h e =
    subst (λ m. Runs (each_at (λ before. term_at d) [] m s) ts rest) len (each_again (λ before. term_at d) spelled_term (IsTerm d) (λ before x u v i j. term_again d x u v i j) ts [] s rest h e)
