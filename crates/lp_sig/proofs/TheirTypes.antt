-- The constants of the signatures that a module sees have their types in the module's signature.
use Rattle.std.proofs.Common.{◌≡◌, ℕ, zero, suc, ◌+◌, ◌<◌, ◌≤◌, List, [], ◌∷◌, ◌++◌, length, map, get_or, Bool, true, false, Some, refl, sym, ap, subst, ◌∙◌, cond, arith, true≢false}
use Rattle.std.specs.Prelude.{if◌then◌else◌, ◌||◌}
use Rattle.std.specs.Str.{bytes_eq}
use Rattle.std.proofs.lemmas.List.{length-append, length-map}
use Rattle.std.proofs.lemmas.Slice.Eq.{bytes_eq-Decides}
use Rattle.lp_base.specs.declared.limits.TheConstants.{END_OF_NUMBERS}
use Rattle.lp_calculus.specs.Types.{Ty}
use Rattle.lp_term.specs.Nodes.{type_tree}
use Rattle.lp_sig.specs.Rows.{Row, found, kind_row}
use Rattle.lp_sig.specs.Said.{Said, a_kind, is_among, names_in, kinds_among, declared_names, numbered}
use Rattle.lp_sig.specs.Schemes.{first_variables}
use Rattle.lp_sig.specs.Standard.{standard_kinds, standard_constants}
use Rattle.lp_sig.specs.Words.{standard_said, meaning_of}
use Rattle.lp_sig.specs.Constants.{standard_tree}
use Rattle.lp_sig.specs.Knowing.{Knows, kinded_row}
use Rattle.lp_sig.specs.Modules.{kind_said, abbreviation_said, said_of, first_names, IsApart}
use Rattle.lp_sig.specs.Worded.{is_met_word}
use Rattle.lp_sig.specs.Named.{named, named_in, kind_name, kind_names, HasNamed, standard_one, declared_one, IsOrdered, SeesAlike}
use Rattle.lp_sig.specs.Sighted.{said_kinds, IsKind, AreKinds, HasTree, SeenSo}
use Rattle.lp_sig.specs.Sighted as sighted
use Rattle.lp_sig.specs.Sights.{AreTheirEntries}
use Rattle.lp_sig.specs.declared.entries.ConstantEntry.{ConstantEntry}
use Rattle.lp_sig.specs.declared.entries.KindEntry.{KindEntry}
use Rattle.lp_sig.specs.declared.making.Making.{Making}
use Rattle.lp_sig.specs.declared.names.Names.{Names}
use Rattle.lp_sig.specs.declared.signature.Signature.{Signature}
use Rattle.lp_sig.proofs.Apart.{AreNew, firsts_new, new_same}
use Rattle.lp_sig.proofs.OwnNames.{names_few}
use Rattle.lp_sig.proofs.Sighting.{kinds_more, numbered_names}
use Rattle.lp_sig.proofs.Viewing.{same_first}

-- a row of names that are new is what its name means
found_past : {A : Type 0} (name : List ℕ) (front rows : List (Row A)) → is_among name (names_in front) ≡ false → found name (front ++ rows) ≡ found name rows
found_past name [] rows e = refl
found_past {A} name (x ∷ xs) rows e = by (found_past name xs rows) (bytes_eq name x.0) e
  where
    by : (is_among name (names_in xs) ≡ false → found name (xs ++ rows) ≡ found name rows) → (t : Bool) → (t || is_among name (names_in xs)) ≡ false →
        cond t (Some x.1) (found name (xs ++ rows)) ≡ found name rows
    by h true e = absurd (true≢false e)
    by h false e = h e

later_new : {A : Type 0} (known : List (List ℕ)) (rows : List (Row A)) (n : List ℕ) (i : ℕ) (d : Row A) → i < length rows → AreNew (n ∷ known) rows → bytes_eq (get_or rows i d).0 n ≡ false
later_new known [] n i d l new = absurd (omega (arith, l))
later_new known (r ∷ rs) n zero d l (e, new) = left (bytes_eq r.0 n) e
  where
    left : (t : Bool) → (t || is_among r.0 known) ≡ false → t ≡ false
    left true e = absurd (true≢false e)
    left false e = refl
later_new {A} known (r ∷ rs) n (suc i) d l (e, new) = later_new (r.0 ∷ known) rs n i d (omega (arith, l)) (swapped known r.0 rs new)
  where
    swapped : (known : List (List ℕ)) (m : List ℕ) (rows : List (Row A)) → AreNew (m ∷ n ∷ known) rows → AreNew (n ∷ m ∷ known) rows
    swapped known m rows h = new_same (m ∷ n ∷ known) (n ∷ m ∷ known) rows (λ w. turn (bytes_eq w m) (bytes_eq w n) (is_among w known)) h
      where
        turn : (a b c : Bool) → (a || (b || c)) ≡ (b || (a || c))
        turn true true c = refl
        turn true false c = refl
        turn false true c = refl
        turn false false c = refl

new_found : {A : Type 0} (known : List (List ℕ)) (rows : List (Row A)) (i : ℕ) (d : Row A) → AreNew known rows → i < length rows →
    (found (get_or rows i d).0 rows ≡ Some (get_or rows i d).1) × (is_among (get_or rows i d).0 known ≡ false)
new_found known [] i d new l = absurd (omega (arith, l))
new_found known (r ∷ rs) zero d (e, new) l = (ap (λ t. cond t (Some r.1) (found r.0 rs)) ((bytes_eq-Decides r.0 r.0).1 refl), e)
new_found known (r ∷ rs) (suc i) d (e, new) l =
    let h = new_found (r.0 ∷ known) rs i d new (omega (arith, l)) in
    let apart = later_new known rs r.0 i d (omega (arith, l)) new in
    (ap (λ t. cond t (Some r.1) (found (get_or rs i d).0 rs)) apart ∙ h.0, right (bytes_eq (get_or rs i d).0 r.0) (is_among (get_or rs i d).0 known) h.1)
  where
    right : (a b : Bool) → (a || b) ≡ false → b ≡ false
    right true b e = absurd (true≢false e)
    right false b e = e

-- the kinds of a signature whose names are apart are kinds
kind_row_at : (es : List KindEntry) (back : List (Row Said)) (i : ℕ) (d : List ℕ) (c : Row Said) → i < length es → (a : ℕ) ×
    (get_or (map kind_said es ++ back) i c ≡ (get_or (map (λ e. e.name.items) es) i d, a_kind a)) × (i < length (map kind_said es ++ back))
kind_row_at [] back i d c l = absurd (omega (arith, l))
kind_row_at (e ∷ es) back zero d c l = (e.arity, refl, omega arith)
kind_row_at (e ∷ es) back (suc i) d c l = let (a, is, h) = kind_row_at es back i d c (omega (arith, l)) in (a, is, omega (arith, h))

pub own_kinds : (own : Signature) (more : List (Row Said)) → IsApart own → 8 + length (said_kinds (said_of own ++ more)) ≤ END_OF_NUMBERS → AreKinds (said_of own) (kind_names own)
unfolding meaning_of
own_kinds own more apart fits k d l =
    let rows = said_of own in
    let n = length-map own.kinds.items (λ e. e.name.items) in
    let (a, is, h) = kind_row_at own.kinds.items (map abbreviation_said own.abbreviations.items) k d (d, a_kind 0) (omega (arith, l, n)) in
    let new = subst (AreNew (names_in standard_kinds)) apart.kinds (firsts_new (names_in standard_kinds) rows) in
    let f = new_found (names_in standard_kinds) rows k (d, a_kind 0) new h in
    let (rest, g) = kinds_more rows more in
    let m = ap length g ∙ length-append (said_kinds rows) rest in
    subst (IsKind rows) (ap (λ r. r.0) is) (record {
      arity = a;
      means = found_past (get_or rows k (d, a_kind 0)).0 standard_said rows f.1 ∙ f.0 ∙ ap (λ r. Some r.1) is;
      fits = omega (arith, fits, m);
    })

-- its constants are new ones
names_new : (known words : List (List ℕ)) (es : List ConstantEntry) → ((w : List ℕ) → is_among w known ≡ is_met_word w words) → first_names known
    (map (λ e. e.name.items) es) ≡ map (λ e. e.name.items) es → sighted.AreNew words es
names_new known words [] same e = tt
names_new known words (x ∷ xs) same e = by (names_new (x.name.items ∷ known) (words ++ x.name.items ∷ []) xs more) (is_among x.name.items known) refl e
  where
    more : (w : List ℕ) → is_among w (x.name.items ∷ known) ≡ is_met_word w (words ++ x.name.items ∷ [])
    more w = ap (λ b. bytes_eq w x.name.items || b) (same w) ∙ turn (bytes_eq w x.name.items) (is_among w (names_in standard_constants))
        (is_among w words) ∙ ap (λ b. is_among w (names_in standard_constants) || b) (sym (behind w words))
      where
        behind : (w : List ℕ) (ws : List (List ℕ)) → is_among w (ws ++ x.name.items ∷ []) ≡ (bytes_eq w x.name.items || is_among w ws)
        behind w [] = refl
        behind w (y ∷ ys) = ap (λ b. bytes_eq w y || b) (behind w ys) ∙ turn (bytes_eq w y) (bytes_eq w x.name.items) (is_among w ys)
          where
            turn : (a b c : Bool) → (a || (b || c)) ≡ (b || (a || c))
            turn true true c = refl
            turn true false c = refl
            turn false true c = refl
            turn false false c = refl

        turn : (a b c : Bool) → (a || (b || c)) ≡ (b || (a || c))
        turn true true c = refl
        turn true false c = refl
        turn false true c = refl
        turn false false c = refl

    by : (first_names (x.name.items ∷ known) (map (λ e. e.name.items) xs) ≡ map (λ e. e.name.items) xs → sighted.AreNew (words ++ x.name.items ∷ [])
        xs) → (t : Bool) → is_among x.name.items known ≡ t → (if t then first_names known (map (λ e. e.name.items) xs) else x.name.items ∷ first_names
        (x.name.items ∷ known) (map (λ e. e.name.items) xs)) ≡ x.name.items ∷ map (λ e. e.name.items) xs → sighted.AreNew words (x ∷ xs)
    by h true s f = let l = names_few known (map (λ e. e.name.items) xs) in let z = ap length f in absurd (omega (arith, l, z))
    by h false s f =
        let g : first_names (x.name.items ∷ known) (map (λ e. e.name.items) xs) ≡ map (λ e. e.name.items) xs = cc in
        (sym (same x.name.items) ∙ s, h g)

pub own_new : (own : Signature) → IsApart own → sighted.AreNew [] own.constants.items
own_new own apart = names_new (names_in standard_constants) [] own.constants.items (λ w. sym (or_false (is_among w (names_in standard_constants)))) apart.constants
  where
    or_false : (b : Bool) → (b || false) ≡ b
    or_false true = refl
    or_false false = refl

-- kinds of the signature that is made
kind_names_of : (es : List KindEntry) → names_in (map kind_row es) ≡ map (λ e. e.name.items) es
kind_names_of [] = refl
kind_names_of (e ∷ es) = ap (λ l. e.name.items ∷ l) (kind_names_of es)

pub their_kinds : (names : Names) (said : List (Row Said)) (s : Signature) → Knows names said → map kind_row s.kinds.items ≡ numbered 8
    (map kinded_row names.kinds.items) → kind_names s ≡ said_kinds said
their_kinds names said s k e = sym (kind_names_of s.kinds.items) ∙ ap names_in (e ∙ ap (numbered 8) k.kinds) ∙ numbered_names 8 (kinds_among (declared_names said))

pub their_room : (names : Names) (said : List (Row Said)) → Knows names said → 8 + length names.kinds.items ≤ END_OF_NUMBERS → 8 + length (said_kinds said) ≤ END_OF_NUMBERS
their_room names said k room =
    let a = length-map (kinds_among (declared_names said)) (λ r. r.0) in
    let b = ap length k.kinds in
    let c = length-map names.kinds.items kinded_row in
    omega (arith, room, a, b, c)

-- constants that are known are constants of the signature that is made
pub has_named : (m : Making) (s : Signature) (said : List (Row Said)) → s.bank ≡ m.bodies.types.bank → AreTheirEntries m.constants.constants.items
    s.constants.items → kind_names s ≡ said_kinds said → (u : Signature) → IsOrdered u → SeenSo m said u → SeesAlike u s
has_named m s said bank entries kinds u o seen e has = let (T, tree, same) = seen e has in by T tree same
  where
    by : (T : Ty) → HasTree m.bodies.types.bank m.constants e.name.items T → named (kind_name (said_kinds said)) T ≡ named_in u e.scheme → HasNamed s e.name.items e.type_vars (named_in u e.scheme)
    by T (sighted.standard_one n f t) same = standard_one n f (sym same ∙ ap (named (kind_name (said_kinds said))) t ∙ ap (λ l. named (kind_name l) (standard_tree n)) (sym kinds))
    by T (sighted.known_one k c is d declared l t n) same =
        let (x, there, name, vars, scheme) = entries k c d declared in
        let count = subst (λ e. e.type_vars ≡ length (first_variables (type_tree u.bank e.scheme.0))) has.2 (o.counts has.0 e has.1) in
        declared_one x there (name ∙ is) (vars ∙ n ∙ ap length (same_first (kind_name (said_kinds said)) (kind_name (kind_names u)) T (type_tree u.bank e.scheme.0) same) ∙ sym count)
        (ap (λ t. named (kind_name (kind_names s)) (type_tree s.bank t.0)) scheme ∙ ap (λ b. named (kind_name (kind_names s)) (type_tree b d.scheme.0)) bank ∙
        ap (named (kind_name (kind_names s))) t ∙ ap (λ l. named (kind_name l) T) kinds ∙ same)
