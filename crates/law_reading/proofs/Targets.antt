-- The files that a made file patch can be meant for have no names of temporaries.
use Rattle.std.proofs.Common.{◌≡◌, ◌≢◌, ℕ, zero, suc, ◌+◌, ◌-◌, ◌<◌, ◌^◌, Bool, true, false, cond, not, eqb, ◌||◌, List, [], ◌∷◌, ◌++◌, length, map, drop, get_or, Option, None, Some, refl, sym, ap, subst, ◌∙◌, arith, append_assoc, length-append, length-drop}
use Rattle.std.specs.Prelude.{codes, find, is_none, is_some, unwrap_or}
use Rattle.std.specs.Cmp.Lexicographic.{same_text}
use Rattle.std.specs.List.{list_any, range_with_len}
use Rattle.std.specs.Option.{option_map_or, option_to_list}
use Rattle.std.specs.Prelude.{option_and_then, option_map}
use Rattle.std.specs.Str.{IsAscii, IsUtf8}
use Rattle.std.proofs.lemmas.Fmt.{IsAscii-decimal}
use Rattle.std.proofs.lemmas.List.{get_or-append-add, get_or-drop}
use Rattle.std.proofs.lemmas.Str.{IsUtf8-from_ascii, utf8_valid_len-IsUtf8}
use Rattle.std.proofs.lemmas.Str.Ascii.{IsAscii-nil}
use Rattle.num_text.specs.Numbers.{AllDigits, decimal, is_digit}
use Rattle.num_text.proofs.Decimal.{decimal-numeral, written-decimal}
use Rattle.outside.specs.Files.{is_temp}
use Rattle.outside.specs.declared.name.NameRule.TheVariants.{NotUtf8}
use Rattle.outside.specs.Names.{is_control, is_slash, normal_form, IsEnding, IsPatchName}
use Rattle.outside.proofs.Lawful.{patch_behind}
use Rattle.read_file_patch.specs.PlainPatch.{PlainHeader, PlainPatch}
use Rattle.patch_options.specs.PlainJob.{PlainOptions}
use Rattle.patch_gen.specs.Patches.{file_name}
use Rattle.read_file_patch.specs.Candidates.{candidates, header_names, index_beside, index_names, lawful_name}
use Rattle.read_file_patch.specs.Stripped.{behind_slashes, stripped}
use Rattle.read_file_patch.specs.Targets.{backup_end, backup_front, backup_name, based, below, fronted, is_fronted, is_reserved, target_of}
use Rattle.patch_set.specs.Named.{names_of, target_in, targets_of}
use Rattle.patch_set.specs.Refusals.{has_reserved, reserves_output}
use Rattle.law_reading.specs.Unnumbered.{unnumbered, unnumbered_header}
use Rattle.law_reading.specs.MadePatches.{made_file_patch, made_header}
use Rattle.law_reading.specs.Plain.{TakesNames}

-- ---- what is no name of a temporary

not-temp : (front : List ℕ) (b : ℕ) → 112 ≢ b → is_temp (front ++ b ∷ []) ≡ false
unfolding is_temp
not-temp front b other = elim (is_temp (front ++ b ∷ [])) as (λ v. is_temp (front ++ b ∷ []) ≡ v → v ≡ false) [
  | true ↦ λ is.
      let text : List ℕ = front ++ b ∷ [] in
      let k = length text - 5 in
      let tail : codes ".ptmp" ≡ drop k text = same_text (codes ".ptmp") (drop k text) (sym is) in
      let long : k + 4 ≡ length front + 0 = omega (arith, length-append front (b ∷ []), length-drop k text, ap (λ (l : List ℕ). length l) tail) in
      let byte : 112 ≡ b = ap (λ (l : List ℕ). get_or l 4 0) tail ∙ get_or-drop k text 4 0 ∙ ap (λ i. get_or text i 0) long ∙ get_or-append-add front (b ∷ []) 0 0 in
      absurd (other byte)
  | false ↦ λ is. refl
] refl

record Last (ds : List ℕ) : Type 0 where
  front : List ℕ
  byte : ℕ
  parts : ds ≡ front ++ byte ∷ []
  digit : is_digit byte ≡ true

last : (ds : List ℕ) → 0 < length ds → AllDigits ds → Last ds
last [] some all = absurd (omega (arith, some))
last (d ∷ []) some all = record { front = []; byte = d; parts = refl; digit = all.0 }
last (d ∷ e ∷ ds) some all =
    let more = last (e ∷ ds) (omega arith) all.1 in
    record { front = d ∷ more.front; byte = more.byte; parts = ap (λ l. d ∷ l) more.parts; digit = more.digit }

no-digit : (b : ℕ) → is_digit b ≡ true → 112 ≢ b
no-digit b is e = let bad : is_digit 112 ≡ true = ap is_digit e ∙ is in absurd (cc)

pub file_lasting : (i : ℕ) → is_temp (file_name i) ≡ false
file_lasting i =
    let l = last (decimal i) (decimal-numeral i).some (decimal-numeral i).digits in
    ap (λ (ds : List ℕ). is_temp (codes "gen/f" ++ ds)) l.parts
    ∙ ap is_temp (sym (append_assoc (codes "gen/f") l.front (l.byte ∷ [])))
    ∙ not-temp (codes "gen/f" ++ l.front) l.byte (no-digit l.byte l.digit)

backup-lasting : (name : List ℕ) → is_temp (name ++ codes ".orig") ≡ false
backup-lasting name = ap is_temp (sym (append_assoc name (codes ".ori") (103 ∷ []))) ∙ not-temp (name ++ codes ".ori") 103 (λ e. omega (arith, e))

reject-lasting : (name : List ℕ) → is_temp (name ++ codes ".rej") ≡ false
reject-lasting name = ap is_temp (sym (append_assoc name (codes ".re") (106 ∷ []))) ∙ not-temp (name ++ codes ".re") 106 (λ e. omega (arith, e))

-- ---- its target

module _ (o : PlainOptions) (takes : TakesNames o) where
  stays : (name : List ℕ) → below o.dir name ≡ name
  stays name = ap (λ d. below d name) takes.dir

  unreserved : (i number : ℕ) → is_reserved (target_of o (file_name i) number) ≡ false
  unreserved i number =
      let name : List ℕ = file_name i in
      let own : is_temp (below o.dir name) ≡ false = ap is_temp (stays name) ∙ file_lasting i in
      let front_is : backup_front o name ≡ name =
      ap (λ p. fronted p (based o.base_prefix name)) takes.prefix ∙ ap (λ b. based b name) takes.base_prefix in
      let front_none : is_fronted o ≡ false = ap (λ p. is_some p || is_some o.base_prefix) takes.prefix ∙ ap is_some takes.base_prefix in
      let backup_is : backup_name o name ≡ name ++ codes ".orig" =
      ap (λ n. n ++ backup_end (is_fronted o) o.suffix) front_is ∙ ap (λ b. name ++ backup_end b o.suffix) front_none ∙ ap (λ s. name ++ backup_end false s) takes.suffix in
      let backup : is_temp (below o.dir (backup_name o name)) ≡ false =
      ap is_temp (stays (backup_name o name) ∙ backup_is) ∙ backup-lasting name in
      let reject : is_temp (below o.dir (unwrap_or o.reject (name ++ codes ".rej"))) ≡ false =
      ap is_temp (stays (unwrap_or o.reject (name ++ codes ".rej")) ∙ ap (λ r. unwrap_or r (name ++ codes ".rej")) takes.reject) ∙ reject-lasting name in
      rw (own, backup, reject) refl

-- ---- its names

byte-ascii : (b : ℕ) (bs : List ℕ) → b < 128 → IsAscii bs → IsAscii (b ∷ bs)
byte-ascii b bs lt all zero = lt
byte-ascii b bs lt all (suc k) = all k

name-utf8 : (i : ℕ) → i < 2 ^ 64 → IsUtf8 (file_name i)
name-utf8 i small =
    let digits : IsAscii (decimal i) = subst IsAscii (written-decimal i small) (IsAscii-decimal i small) in
    IsUtf8-from_ascii (file_name i)
    (byte-ascii 103 (101 ∷ 110 ∷ 47 ∷ 102 ∷ decimal i) (omega arith) (byte-ascii 101 (110 ∷ 47 ∷ 102 ∷ decimal i) (omega arith) (byte-ascii 110 (47 ∷ 102 ∷ decimal i) (omega arith) (byte-ascii 47 (102 ∷ decimal i) (omega arith) (byte-ascii 102 (decimal i) (omega arith) digits)))))

no-slash : (d : ℕ) → is_digit d ≡ true → is_slash d ≡ false
no-slash d is = grind arith

no-control : (d : ℕ) → is_digit d ≡ true → is_control d ≡ false
no-control d is = grind arith

free : (test : ℕ → Bool) → ((d : ℕ) → is_digit d ≡ true → test d ≡ false) → (ds : List ℕ) → AllDigits ds → list_any test ds ≡ false
free test none [] all = refl
free test none (d ∷ ds) all = ap (λ b. b || list_any test ds) (none d all.0) ∙ free test none ds all.1

-- a number may be put behind a name
pub number_ending : (n : ℕ) → IsEnding (decimal n)
number_ending n = record { no_slash = free is_slash no-slash (decimal n) (decimal-numeral n).digits; no_control = free is_control no-control (decimal n) (decimal-numeral n).digits }

front-utf8 : IsUtf8 (codes "gen/f")
front-utf8 = IsUtf8-from_ascii (codes "gen/f")
    (byte-ascii 103 (101 ∷ 110 ∷ 47 ∷ 102 ∷ []) (omega arith) (byte-ascii 101 (110 ∷ 47 ∷ 102 ∷ []) (omega arith) (byte-ascii 110 (47 ∷ 102 ∷ []) (omega arith) (byte-ascii 47 (102 ∷ []) (omega arith) (byte-ascii 102 [] (omega arith) IsAscii-nil)))))

front-name : IsPatchName (codes "gen/f")
front-name = record { lawful = ap (λ n. cond (not (eqb n 5)) (Some NotUtf8) None) (utf8_valid_len-IsUtf8 (codes "gen/f") front-utf8); normal = refl }

name-lawful : (i : ℕ) → i < 2 ^ 64 → IsPatchName (file_name i)
name-lawful i small = patch_behind (codes "gen/f") (decimal i) front-name (number_ending i) (name-utf8 i small)

lawful-is : (i : ℕ) → i < 2 ^ 64 → lawful_name (file_name i) ≡ Some (file_name i)
lawful-is i small =
    let name = name-lawful i small in
    ap (λ r. cond (is_none r) (Some (normal_form (file_name i))) None) name.lawful ∙ ap (λ (n : List ℕ). Some n) name.normal

unstripped : (text : List ℕ) → stripped (Some 0) text ≡ Some text
unfolding behind_slashes
unstripped text = refl

header-names-are : (i : ℕ) → i < 2 ^ 64 → header_names (Some 0) (Some (file_name i)) ≡ file_name i ∷ []
header-names-are i small = ap (λ x. option_to_list (option_and_then lawful_name x)) (unstripped (file_name i)) ∙ ap option_to_list (lawful-is i small)

no-index : (posix : Bool) (old new : Option (List ℕ)) → index_names (Some 0) (index_beside posix old new None) ≡ []
no-index true old new = refl
no-index false None None = refl
no-index false None (Some n) = refl
no-index false (Some n) new = refl

two-names : (i : ℕ) (posix : Bool) → i < 2 ^ 64 → candidates (Some 0) (Some (file_name i)) (Some (file_name i)) None posix ≡ file_name i ∷ file_name i ∷ []
two-names i posix small = rw (header-names-are i small, no-index posix (Some (file_name i)) (Some (file_name i))) refl

module _ (o : PlainOptions) (takes : TakesNames o) (i : ℕ) (small : i < 2 ^ 64) (h : PlainHeader) (is : unnumbered_header h ≡ made_header i) where
  names-are : names_of o h ≡ file_name i ∷ file_name i ∷ []
  names-are =
      let action : h.action ≡ (made_header i).action = ap (λ (x : PlainHeader). x.action) is in
      let old : h.old_name ≡ Some (file_name i) = ap (λ (x : PlainHeader). x.old_name) is in
      let new : h.new_name ≡ Some (file_name i) = ap (λ (x : PlainHeader). x.new_name) is in
      let index : h.index ≡ None = ap (λ (x : PlainHeader). x.index) is in
      rw (takes.file, action, takes.strip, old, new, index) (two-names i o.posix small)

  target-free : (known : List (List ℕ)) → list_any is_reserved (targets_of o known h) ≡ false
  target-free known =
      ap (λ (ns : List (List ℕ)). list_any is_reserved (map (target_in o known) ns)) names-are
      ∙ rw (unreserved o takes i _) refl

-- ---- those of all file patches

same-first : {A : Type 0} (x y : A) (xs ys : List A) → x ∷ xs ≡ y ∷ ys → (x ≡ y) × (xs ≡ ys)
same-first x y xs ys e = (cc, cc)

pub none-reserved : (o : PlainOptions) → TakesNames o → (seed count : ℕ) (known : List (List ℕ)) (ps : List PlainPatch) (a n : ℕ) → a + n < 2 ^ 64 → map unnumbered ps ≡ map (made_file_patch seed count) (range_with_len a n)
    → find (λ p. has_reserved o known p || reserves_output o known) ps ≡ None
none-reserved o takes seed count known [] a n small is = refl
none-reserved o takes seed count known (p ∷ ps) a zero small is = absurd (cc)
none-reserved o takes seed count known (p ∷ ps) a (suc n) small is =
    let both = same-first (unnumbered p) (made_file_patch seed count a) (map unnumbered ps) (map (made_file_patch seed count) (range_with_len (a + 1) n)) is in
    let own : has_reserved o known p ≡ false = target-free o takes a (omega (arith, small)) p.header (ap (λ (x : PlainPatch). x.header) both.0) known in
    let output : reserves_output o known ≡ false = ap (λ x. option_map_or is_reserved (option_map (target_in o known) x) false) takes.output in
    let neither : (has_reserved o known p || reserves_output o known) ≡ false = rw (own, output) refl in
    ap (λ b. cond b (Some p) (find (λ q. has_reserved o known q || reserves_output o known) ps)) neither
    ∙ none-reserved o takes seed count known ps (a + 1) n (omega (arith, small)) both.1
