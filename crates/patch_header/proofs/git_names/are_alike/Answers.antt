use Rattle.std.proofs.Common.{◌≡◌, ◌+◌, length, drop, slice_range, sym, ap, ◌∙◌, subst, arith}
use Rattle.std.specs.Prelude.{bytes_eq}
use Rattle.bstr.specs.Find.{is_byte, IsFirstByte}
use Rattle.patch_header.proofs.Bytes.{is_position}
use Rattle.patch_header.proofs.BareLemmas.{alike-one, alike-both, rest-all}
use Rattle.patch_header.proofs.git_names.are_alike.Goals as goal

pub equals_without-requires : goal.equals_without-requires
equals_without-requires c = sym (is_position (is_byte 47) c.args.old.now c.find_byte.result c.find_byte.ensures) ∙ c.in-None.is

pub returns-in-None-find_byte : goal.returns-in-None-find_byte
returns-in-None-find_byte c = sym (alike-one c.args.old.now c.args.new.now c.in-Some.k
    (sym (is_position (is_byte 47) c.args.old.now c.find_byte.result c.find_byte.ensures) ∙ c.in-Some.is)
    (sym (is_position (is_byte 47) c.args.new.now c.find_byte-in-Some.result c.find_byte-in-Some.ensures) ∙ c.in-None-find_byte.is))

pub returns-in-Some-find_byte : goal.returns-in-Some-find_byte
returns-in-Some-find_byte c =
    let old = c.args.old.now in
    let new = c.args.new.now in
    let k = c.in-Some.k in
    let l = c.in-Some-find_byte.l in
    let same : c.eq.result ≡ bytes_eq (drop (k + 1) old) (drop (l + 1) new)
    = c.eq.ensures ∙ ap (λ xs. bytes_eq xs (slice_range new (l + 1) (length new))) (rest-all old (k + 1)) ∙ ap (bytes_eq (drop (k + 1) old)) (rest-all new (l + 1)) in
    same ∙ sym (alike-both old new k l
    (sym (is_position (is_byte 47) old c.find_byte.result c.find_byte.ensures) ∙ c.in-Some.is)
    (sym (is_position (is_byte 47) new c.find_byte-in-Some.result c.find_byte-in-Some.ensures) ∙ c.in-Some-find_byte.is))

pub slice_bounds-old_rest-count : goal.slice_bounds-old_rest-count
slice_bounds-old_rest-count c = omega (arith, (subst (IsFirstByte (is_byte 47) c.args.old.now) c.in-Some.is c.find_byte.ensures).0.high)

pub slice_bounds-new_rest-count : goal.slice_bounds-new_rest-count
slice_bounds-new_rest-count c = omega (arith, (subst (IsFirstByte (is_byte 47) c.args.new.now) c.in-Some-find_byte.is c.find_byte-in-Some.ensures).0.high)
