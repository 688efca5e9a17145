-- The bodies and lines of abbreviations, one more sentence after the other.
use Rattle.std.specs.Global.{Global}
use Rattle.std.proofs.Common.{◌≡◌, ℕ, zero, suc, ◌+◌, ◌<◌, ◌≤◌, List, [], ◌∷◌, ◌++◌, length, map, take, take_all, get_or, Bool, true, false, true≢false, Option, Some, None, refl, sym, ap, subst, ◌∙◌, inl, inr, ⊎_elim, arith, append-nil, append_assoc, cond}
use Rattle.std.specs.Prelude.{◌⊎◌, ◌||◌, if◌then◌else◌, option_map, Vec, slice_index_or}
use Rattle.std.specs.Str.{bytes_eq}
use Rattle.std.proofs.lemmas.Slice.Eq.{bytes_eq-Decides}
use Rattle.std.proofs.lemmas.List.{map-append, length-append, length-map, take_more, get_or_append_left}
use Rattle.std.proofs.lemmas.Option.{same_Some}
use Rattle.lp_base.specs.declared.place.Spot.{Spot}
use Rattle.lp_term.specs.Nodes.{Nodes, type_tree}
use Rattle.lp_term.specs.declared.node.TypeId.{TypeId}
use Rattle.lp_syntax.specs.declared.text.Declaration.{Declaration}
use Rattle.lp_syntax.specs.declared.text.Declaration.TheVariants as declaration
use Rattle.lp_syntax.specs.declared.text.RawType.{RawType}
use Rattle.lp_sig.specs.Pieces.{spelled}
use Rattle.lp_sig.specs.Places.{first_place}
use Rattle.lp_sig.specs.Rows.{Row, found}
use Rattle.lp_sig.specs.Said.{Said, an_abbreviation, is_among, names_in, said_by, said_in}
use Rattle.lp_sig.specs.Knowing.{is_known}
use Rattle.lp_sig.specs.Abbreviations.{abbreviation_names}
use Rattle.lp_sig.specs.Types.{Definition, in_text, definitions_by, definitions_in, HasBody}
use Rattle.lp_sig.specs.Holding.{body_of, line_at, IsTree, HoldsBodies, HoldsLines, line_of_text, KnowsBodies}
use Rattle.lp_sig.specs.Announced.{IsAnnounced, AreAnnounced}
use Rattle.lp_sig.specs.declared.bodies.Body.{Body}
use Rattle.lp_sig.proofs.Abbreviating.{is_quiet, names_quiet, names_known, names_fresh, told_more, told_again, unknown_untold}
use Rattle.lp_sig.proofs.Growing.{found_more, body_stays}
use Rattle.lp_sig.proofs.Settling.{before_or_at}
use Rattle.lp_sig.proofs.Spoken.{said_more}

pub last_some : {A : Type 0} (xs : List (Option A)) (o : Option A) (i : ℕ) (a : A) → get_or (xs ++ o ∷ []) i None ≡ Some a → ((get_or xs i None ≡ Some a) × (i < length xs)) ⊎ ((i ≡ length xs) × (o ≡ Some a))
last_some [] o zero a e = inr (refl, e)
last_some [] o (suc i) a e = absurd (cc)
last_some (x ∷ xs) o zero a e = inl (e, omega arith)
last_some {A} (x ∷ xs) o (suc i) a e = deeper (last_some xs o i a e)
  where
    deeper : ((get_or xs i None ≡ Some a) × (i < length xs)) ⊎ ((i ≡ length xs) × (o ≡ Some a)) → ((get_or xs i None ≡ Some a) × (suc i < suc (length xs))) ⊎ ((suc i ≡ suc (length xs)) × (o ≡ Some a))
    deeper (inl p) = let l = p.1 in inl (p.0, omega (arith, l))
    deeper (inr p) = inr (ap (λ n. suc n) p.0, p.1)

pub place_front : (name : List ℕ) (ns ms : List (List ℕ)) (i : ℕ) → first_place name (ns ++ ms) ≡ Some i → i < length ns → first_place name ns ≡ Some i
place_front name [] ms i e h = absurd (omega (arith, h))
place_front name (n ∷ ns) ms i e h = by (λ j f l. place_front name ns ms j f l) (bytes_eq name n) (first_place name (ns ++ ms)) refl e
  where
    by : ((j : ℕ) → first_place name (ns ++ ms) ≡ Some j → j < length ns → first_place name ns ≡ Some j) → (t : Bool) (o : Option ℕ) → first_place
        name (ns ++ ms) ≡ o → (if t then Some 0 else option_map (λ i. suc i) o) ≡ Some i →
        (if t then Some 0 else option_map (λ i. suc i) (first_place name ns)) ≡ Some i
    by f true o p e = e
    by f false None p e = absurd (cc)
    by f false (Some j) p e = let s : suc j ≡ i = same_Some (suc j) i e in ap (option_map (λ i. suc i)) (f j p (omega (arith, s, h))) ∙ e

pub place_last : (name n : List ℕ) (ns : List (List ℕ)) (i : ℕ) → first_place name (ns ++ n ∷ []) ≡ Some i → i ≡ length ns → bytes_eq name n ≡ true
place_last name n [] i e h = by (bytes_eq name n) None refl e
  where
    by : (t : Bool) (o : Option ℕ) → o ≡ None → (if t then Some 0 else option_map (λ i. suc i) o) ≡ Some i → t ≡ true
    by true o p e = refl
    by false None p e = absurd (cc)
    by false (Some j) p e = absurd (cc)
place_last name n (m ∷ ms) i e h = by (λ j f k. place_last name n ms j f k) (bytes_eq name m) (first_place name (ms ++ n ∷ [])) refl e
  where
    by : ((j : ℕ) → first_place name (ms ++ n ∷ []) ≡ Some j → j ≡ length ms → bytes_eq name n ≡ true) → (t : Bool) (o : Option ℕ) → first_place name (ms ++ n ∷ []) ≡ o → (if t then Some 0 else option_map (λ i. suc i) o) ≡ Some i → bytes_eq name n ≡ true
    by f true o p e = let z : 0 ≡ i = same_Some 0 i e in absurd (omega (arith, z, h))
    by f false None p e = absurd (cc)
    by f false (Some j) p e = let s : suc j ≡ i = same_Some (suc j) i e in f j p (omega (arith, s, h))

pub found_new : {A : Type 0} (n : List ℕ) (rows : List (Row A)) (a : A) → is_among n (names_in rows) ≡ false → found n (rows ++ (n, a) ∷ []) ≡ Some a
found_new n [] a h = ap (λ t. cond t (Some a) None) ((bytes_eq-Decides n n).1 refl)
found_new {A} n (r ∷ rs) a h = by (found_new n rs a) (bytes_eq n r.0) h
  where
    by : (is_among n (names_in rs) ≡ false → found n (rs ++ (n, a) ∷ []) ≡ Some a) → (t : Bool) → (t || is_among n (names_in rs)) ≡ false → cond t (Some r.1) (found n (rs ++ (n, a) ∷ [])) ≡ Some a
    by f true h = absurd (true≢false h)
    by f false h = f h

-- no new abbreviation
module _ (b : Nodes) (bodies : List Body) (said : List (Row Said)) (defs : List (Row Definition)) (text : List ℕ) (declared : ℕ → Option Declaration) (k : KnowsBodies b bodies said defs text declared) where
  same_names : (more : List (Row Said)) (others : List (Row Definition)) → abbreviation_names (said ++ more) ≡ abbreviation_names said →
      ((n : List ℕ) → is_among n (names_in (defs ++ others)) ≡ true → is_among n (names_in (said ++ more)) ≡ true) → KnowsBodies b bodies
      (said ++ more) (defs ++ others) text declared
  same_names more others same told = record {
    holds = λ name place id at is. let h = k.holds name place id (ap (first_place name) (sym same) ∙ at) is in (h.0, body_stays said more defs others name (type_tree b id.0) h.1);
    lines = λ name place line s ps ty at is d. found_more name defs others (in_text text ps.items ty) (k.lines name place line s ps ty (ap (first_place name) (sym same) ∙ at) is d);
    count = k.count ∙ ap length (sym same);
    told = told;
  }

  pub quiet_line : (d : Declaration) → is_quiet d ≡ true → definitions_by text d ≡ [] → KnowsBodies b bodies (said ++ said_by text d) (defs ++ definitions_by text d) text declared
  quiet_line d h none =
      subst (λ ds. KnowsBodies b bodies (said ++ said_by text d) (defs ++ ds) text declared) (sym none) (same_names (said_by text d) [] (names_quiet said text d h) (told_again defs said (said_by text d) k.told))

  pub known_again : (n : List ℕ) (p : ℕ) (d : Definition) → is_known n said ≡ true → KnowsBodies b bodies (said ++ (n, an_abbreviation p) ∷ []) (defs ++ (n, d) ∷ []) text declared
  known_again n p d h = same_names ((n, an_abbreviation p) ∷ []) ((n, d) ∷ []) (names_known said n p h) (told_more defs said n d (an_abbreviation p) k.told)

  -- a new one
  module _ (new : List Body) (s : Spot) (p : ℕ) (ps : Vec Spot Global) (ty : RawType) (line : ℕ) (fresh : is_known (spelled text s) said ≡ false) (there : declared line ≡ Some (declaration.Abbreviation s ps ty)) (one : new ≡ bodies ++ record { body = None; line = Some line } ∷ []) where
    abbrev n : List ℕ
    n = spelled text s

    names : abbreviation_names (said ++ (n, an_abbreviation p) ∷ []) ≡ abbreviation_names said ++ n ∷ []
    names = names_fresh said (spelled text s) p fresh

    abbrev definition : Definition
    definition = in_text text ps.items ty

    in_front : (name : List ℕ) (place : ℕ) → first_place name (abbreviation_names (said ++ (n, an_abbreviation p) ∷ [])) ≡ Some place → place < length bodies → first_place name (abbreviation_names said) ≡ Some place
    in_front name place at l = let c = k.count in place_front name (abbreviation_names said) (n ∷ []) place (ap (first_place name) (sym names) ∙ at) (omega (arith, l, c))

    untold : is_among n (names_in defs) ≡ false
    untold = by (is_among (spelled text s) (names_in defs)) refl
      where
        by : (t : Bool) → is_among (spelled text s) (names_in defs) ≡ t → is_among (spelled text s) (names_in defs) ≡ false
        by true e = absurd (true≢false (sym (k.told (spelled text s) e) ∙ unknown_untold (spelled text s) said fresh))
        by false e = e

    same_type : (z : Spot) (qs : Vec Spot Global) (tz : RawType) → Some (declaration.Abbreviation s ps ty) ≡ Some (declaration.Abbreviation z qs tz) → definition ≡ in_text text qs.items tz
    same_type z qs tz e =
        let f : declaration.Abbreviation s ps ty ≡ declaration.Abbreviation z qs tz = same_Some (declaration.Abbreviation s ps ty) (declaration.Abbreviation z qs tz) e in
        let g : ps ≡ qs = cc in
        let h : ty ≡ tz = cc in
        ap (λ ps. in_text text ps.items ty) g ∙ ap (λ ty. in_text text qs.items ty) h

    holds_new : HoldsBodies b new (said ++ (n, an_abbreviation p) ∷ []) (defs ++ (n, definition) ∷ [])
    holds_new = λ name place id at is. by name place id at (last_some (map (λ b. b.body) bodies) None place id (ap (λ l. slice_index_or l place None) (sym (map-append (λ b. b.body) bodies (record { body = None; line = Some line } ∷ []))) ∙ ap (λ bs. body_of bs place) (sym one) ∙ is))
      where
        by : (name : List ℕ) (place : ℕ) (id : TypeId) → first_place name (abbreviation_names (said ++ (n, an_abbreviation p) ∷ [])) ≡ Some place →
            ((get_or (map (λ b. b.body) bodies) place None ≡ Some id) × (place < length (map (λ b. b.body) bodies))) ⊎
            ((place ≡ length (map (λ b. b.body) bodies)) × (None ≡ Some id)) →
            IsTree b (HasBody (said ++ (n, an_abbreviation p) ∷ []) (defs ++ (n, definition) ∷ []) name) id
        by name place id at (inl q) =
            let l = q.1 in
            let c = length-map bodies (λ b. b.body) in
            let h = k.holds name place id (in_front name place at (omega (arith, l, c))) q.0 in
            (h.0, body_stays said ((n, an_abbreviation p) ∷ []) defs ((n, definition) ∷ []) name (type_tree b id.0) h.1)
        by name place id at (inr q) = let e = q.1 in absurd (cc)

    lines_new : HoldsLines new (said ++ (n, an_abbreviation p) ∷ []) (defs ++ (n, definition) ∷ []) text declared
    lines_new = λ name place l z qs tz at is d.
        by name place l z qs tz at d (last_some (map (λ b. b.line) bodies) (Some line) place l (ap (λ l. slice_index_or l place None) (sym (map-append (λ b. b.line) bodies (record { body = None; line = Some line } ∷ []))) ∙ ap (λ bs. line_at bs place) (sym one) ∙ is))
      where
        by : (name : List ℕ) (place l : ℕ) (z : Spot) (qs : Vec Spot Global) (tz : RawType) → first_place name (abbreviation_names (said ++ (n, an_abbreviation p) ∷ [])) ≡ Some place → declared l ≡ Some (declaration.Abbreviation z qs tz) →
            ((get_or (map (λ b. b.line) bodies) place None ≡ Some l) × (place < length (map (λ b. b.line) bodies))) ⊎ ((place ≡ length (map (λ b. b.line) bodies)) × (Some line ≡ Some l)) → found name (defs ++ (n, definition) ∷ []) ≡ Some (in_text text qs.items tz)
        by name place l z qs tz at d (inl q) =
            let m = q.1 in
            let c = length-map bodies (λ b. b.line) in
            found_more name defs ((n, definition) ∷ []) (in_text text qs.items tz) (k.lines name place l z qs tz (in_front name place at (omega (arith, m, c))) q.0 d)
        by name place l z qs tz at d (inr q) =
            let c = length-map bodies (λ b. b.line) in
            let m = k.count in
            let e = q.0 in
            let same : name ≡ n = (bytes_eq-Decides name n).0 (place_last name n (abbreviation_names said) place (ap (first_place name) (sym names) ∙ at) (omega (arith, e, c, m))) in
            ap (λ m. found m (defs ++ (n, definition) ∷ [])) same ∙ found_new n defs definition untold ∙ ap (λ d. Some d) (same_type z qs tz (sym there ∙ ap declared (same_Some line l q.1) ∙ d))

    pub known_new : KnowsBodies b new (said ++ (n, an_abbreviation p) ∷ []) (defs ++ (n, definition) ∷ []) text declared
    known_new = record {
      holds = holds_new;
      lines = lines_new;
      count = (let c = k.count in let e = ap length one in let f = length-append bodies (record { body = None; line = Some line } ∷ []) in let g = ap length names in let h = length-append (abbreviation_names said) (n ∷ []) in omega (arith, c, e, f, g, h));
      told = told_more defs said n definition (an_abbreviation p) k.told;
    }

-- behind so many sentences of a text
pub definitions_append : (text : List ℕ) (xs ys : List Declaration) → definitions_in text (xs ++ ys) ≡ definitions_in text xs ++ definitions_in text ys
definitions_append text [] ys = refl
definitions_append text (x ∷ xs) ys = ap (λ z. definitions_by text x ++ z) (definitions_append text xs ys) ∙ sym (append_assoc (definitions_by text x) (definitions_in text xs) (definitions_in text ys))

pub definitions_more : (text : List ℕ) (lines : List Declaration) (i : ℕ) (d : Declaration) (defs : List (Row Definition)) → i < length lines → d ≡ get_or lines i d →
    (defs ++ definitions_in text (take i lines)) ++ definitions_by text d ≡ defs ++ definitions_in text (take (i + 1) lines)
definitions_more text lines i d defs h is =
    append_assoc defs (definitions_in text (take i lines)) (definitions_by text d) ∙
    ap (λ z. defs ++ z) (ap (λ e. definitions_in text (take i lines) ++ definitions_by text e) is ∙ ap (λ z. definitions_in text (take i lines) ++ z) (sym (append-nil (definitions_by text (get_or lines i d)))) ∙
    sym (definitions_append text (take i lines) (get_or lines i d ∷ [])) ∙ ap (definitions_in text) (sym (take_more lines i d h)))

pub nothing_announced : (b : Nodes) (bodies : List Body) (said : List (Row Said)) (defs : List (Row Definition)) (text : List ℕ) (declared : ℕ → Option Declaration) → KnowsBodies b bodies said defs text declared → KnowsBodies b bodies (said ++ []) (defs ++ []) text declared
nothing_announced b bodies said defs text declared k = subst (λ s. KnowsBodies b bodies s (defs ++ []) text declared) (sym (append-nil said)) (subst (λ d. KnowsBodies b bodies said d text declared) (sym (append-nil defs)) k)

pub one_announced : (b : Nodes) (bodies : List Body) (said : List (Row Said)) (defs : List (Row Definition)) (text : List ℕ) (declared : ℕ → Option Declaration) (lines : List Declaration) (i : ℕ) (d : Declaration) → i < length lines → d ≡ get_or lines i d →
    KnowsBodies b bodies ((said ++ said_in text (take i lines)) ++ said_by text d) ((defs ++ definitions_in text (take i lines)) ++ definitions_by text d) text declared →
    KnowsBodies b bodies (said ++ said_in text (take (i + 1) lines)) (defs ++ definitions_in text (take (i + 1) lines)) text declared
one_announced b bodies said defs text declared lines i d h is k =
    subst (λ s. KnowsBodies b bodies s (defs ++ definitions_in text (take (i + 1) lines)) text declared) (said_more text lines i d said h is)
    (subst (λ e. KnowsBodies b bodies ((said ++ said_in text (take i lines)) ++ said_by text d) e text declared) (definitions_more text lines i d defs h is) k)

pub all_announced : (b : Nodes) (bodies : List Body) (said : List (Row Said)) (defs : List (Row Definition)) (text : List ℕ) (declared : ℕ → Option Declaration) (lines : List Declaration) (i : ℕ) → length lines ≤ i →
    KnowsBodies b bodies (said ++ said_in text (take i lines)) (defs ++ definitions_in text (take i lines)) text declared → KnowsBodies b bodies (said ++ said_in text lines) (defs ++ definitions_in text lines) text declared
all_announced b bodies said defs text declared lines i h k = subst (λ ls. KnowsBodies b bodies (said ++ said_in text ls) (defs ++ definitions_in text ls) text declared) (take_all i lines h) k

-- the line of a declaration
pub line_there : (lines : List Declaration) (i : ℕ) (d : Declaration) → i < length lines → d ≡ get_or lines i d → line_of_text lines i ≡ Some d
line_there [] i d h is = absurd (omega (arith, h))
line_there (x ∷ xs) zero d h is = ap (λ d. Some d) (sym is)
line_there (x ∷ xs) (suc i) d h is = line_there xs i d (omega (arith, h)) is

pub abbreviation_announced : (b : Nodes) (bodies : List Body) (said : List (Row Said)) (defs : List (Row Definition)) (text : List ℕ)
    (declared : ℕ → Option Declaration) (d : Declaration) (s : Spot) (ps : Vec Spot Global) (ty : RawType) (p : ℕ) → d ≡ declaration.Abbreviation s ps
    ty → p ≡ length ps.items →
    KnowsBodies b bodies (said ++ (spelled text s, an_abbreviation p) ∷ []) (defs ++ (spelled text s, in_text text ps.items ty) ∷ []) text declared → KnowsBodies b bodies (said ++ said_by text d) (defs ++ definitions_by text d) text declared
abbreviation_announced b bodies said defs text declared d s ps ty p is same k =
    subst (λ d. KnowsBodies b bodies (said ++ said_by text d) (defs ++ definitions_by text d) text declared) (sym is)
    (subst (λ p. KnowsBodies b bodies (said ++ (spelled text s, an_abbreviation p) ∷ []) (defs ++ (spelled text s, in_text text ps.items ty) ∷ []) text declared) same k)

-- where each is announced: nothing new, or one more
place_stays : (name : List ℕ) (ns ms : List (List ℕ)) (i : ℕ) → first_place name ns ≡ Some i → first_place name (ns ++ ms) ≡ Some i
place_stays name [] ms i e = absurd (cc)
place_stays name (n ∷ ns) ms i e = by (bytes_eq name n) (first_place name ns) refl e (λ j f. place_stays name ns ms j f)
  where
    by : (t : Bool) (o : Option ℕ) → first_place name ns ≡ o → (if t then Some 0 else option_map (λ i. suc i) o) ≡ Some i → ((j : ℕ) → first_place name ns ≡ Some j → first_place name (ns ++ ms) ≡ Some j) → (if t then Some 0 else option_map (λ i. suc i) (first_place name (ns ++ ms))) ≡ Some i
    by true o p e f = e
    by false None p e f = absurd (cc)
    by false (Some j) p e f = ap (option_map (λ i. suc i)) (f j p) ∙ e

pub at_end : {A : Type 0} (xs : List (Option A)) (o : Option A) (i : ℕ) → i ≡ length xs → get_or (xs ++ o ∷ []) i None ≡ o
at_end [] o zero e = refl
at_end [] o (suc i) e = absurd (omega (arith, e))
at_end (x ∷ xs) o zero e = absurd (omega (arith, e))
at_end (x ∷ xs) o (suc i) e = at_end xs o i (omega (arith, e))

module _ (from : ℕ) (bodies : List Body) (said more : List (Row Said)) (text : List ℕ) (declared : ℕ → Option Declaration) (all : AreAnnounced from bodies said text declared) where
  pub none_announced : abbreviation_names (said ++ more) ≡ abbreviation_names said → AreAnnounced from bodies (said ++ more) text declared
  none_announced same place f l =
      let a = all place f l in
      record { line = a.line; at_line = a.at_line; name = a.name; parameters = a.parameters; body = a.body; declares = a.declares; its_place = ap (first_place (spelled text a.name)) same ∙ a.its_place }

  pub new_announced : (new : List Body) (s : Spot) (ps : Vec Spot Global) (ty : RawType) (line : ℕ) → new ≡ bodies ++ record
      { body = None; line = Some line } ∷ [] → declared line ≡ Some (declaration.Abbreviation s ps ty) → abbreviation_names (said ++ more) ≡
      abbreviation_names said ++ spelled text s ∷ [] →
      first_place (spelled text s) (abbreviation_names said ++ spelled text s ∷ []) ≡ Some (length (abbreviation_names said)) → length bodies ≡ length (abbreviation_names said) → AreAnnounced from new (said ++ more) text declared
  new_announced new s ps ty line one there names last count place f l = ⊎_elim (λ h. old h) (λ e. this e) (before_or_at (length bodies) place below)
    where
      lines_are : map (λ b. b.line) new ≡ map (λ b. b.line) bodies ++ Some line ∷ []
      lines_are = ap (map (λ b. b.line)) one ∙ map-append (λ b. b.line) bodies (record { body = None; line = Some line } ∷ [])

      below : place < length bodies + 1
      below = let a = ap length one in let b = length-append bodies (record { body = None; line = Some line } ∷ []) in omega (arith, l, a, b)

      old : place < length bodies → IsAnnounced new (said ++ more) text declared place
      old h =
          let a = all place f h in
          let c = length-map bodies (λ b. b.line) in
          record {
            line = a.line;
            at_line = ap (λ ls. slice_index_or ls place None) lines_are ∙ get_or_append_left (map (λ b. b.line) bodies) (Some line ∷ []) None place (omega (arith, h, c)) ∙ a.at_line;
            name = a.name;
            parameters = a.parameters;
            body = a.body;
            declares = a.declares;
            its_place = ap (first_place (spelled text a.name)) names ∙ place_stays (spelled text a.name) (abbreviation_names said) (spelled text s ∷ []) place a.its_place;
          }

      this : place ≡ length bodies → IsAnnounced new (said ++ more) text declared place
      this e = record {
        line = line;
        at_line = ap (λ ls. slice_index_or ls place None) lines_are ∙ at_end (map (λ b. b.line) bodies) (Some line) place (e ∙ sym (length-map bodies (λ b. b.line)));
        name = s;
        parameters = ps;
        body = ty;
        declares = there;
        its_place = ap (first_place (spelled text s)) names ∙ last ∙ ap (λ i. Some i) (sym (e ∙ count));
      }
