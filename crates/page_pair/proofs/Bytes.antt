-- The bytes of a page in its memory.
use Rattle.std.proofs.Common.{◌≡◌, ℕ, ◌+◌, ◌*◌, ◌<◌, ◌^◌, List, [], ◌∷◌, ◌++◌, length, refl, sym, ap, ◌∙◌, w8, arith}
use Rattle.std.proofs.Math.Seq.{take-append_seam}
use Rattle.std.proofs.lemmas.List.{length-append, length-replicate, replicate-append-replicate}
use Rattle.std.specs.List.{refill}
use Rattle.std.specs.Prelude.{take, drop, replicate}
use seplogic.Ra.Ura.{Ura}
use base.Fraction.{full_share}
use base.Fml.{fsep, feq, froom}
use mir.Syntax.{Ty, ty_int, ty_array}
use prog.Capped.{capped_is}
use Rattle.std.specs.Allocator.{HasLayout}
use base.Logic.{ent, sep}
use types.Logic.{Logic, sem}
use types.Kit.{‵, ◌$◌, ◌∵◌, !, qed, move, use1, use2, rewrite, drop as drops, fsplit, fjoin, feq_i, feq_l, done}
use types.SemTy.{cells}
use denote.Array.{Array}
use denote.Builtin.{u8}
use denote.Index.{whole_in, whole_out}
use denote.Memory.{mem, part_at}
use denote.Steps.{nothing}
use denote.RawPtr.Bytes.{bytes, bytes_apart, bytes_whole, bytes_glue, bytes-room}

-- as many bytes as fit take the place of all
pub refill_whole : (n : ℕ) (old new : List ℕ) → length new ≡ n → refill n old new ≡ new
refill_whole n old new e = ap (λ (k : ℕ). take k (new ++ drop (length new) old)) (sym e) ∙ take-append_seam new (drop (length new) old)

abbrev pub space : ℕ → Ty
space n = ty_array (ty_int w8) n

-- what the allocator is asked for that many bytes
pub laid : (n : ℕ) → n < 2 ^ 63 → HasLayout (space n) n 1
laid n small = let fits : n * 1 < 2 ^ 64 = omega arith in let once : n * 1 ≡ n = omega arith in (capped_is (n * 1) fits ∙ once, refl)

module _ {M : Type 1} {𝓤 : Ura M} (𝓛 : Logic 𝓤) where
  pub cells_out : (n : ℕ) (xs : List ℕ) (b o : ℕ) → ent 𝓤 (sem 𝓛 (part_at (Array u8 n) full_share xs b o)) (sem 𝓛 (cells (mem u8) xs b o))
  cells_out n xs b o =
      qed 𝓛 (‵ (part_at (Array u8 n) full_share xs b o) ∷ []) ∵ use1 𝓛 (‵ (fsep (feq ℕ (length xs) n) (bytes full_share xs b o))) (bytes_apart 𝓛 full_share n xs b o) $
      fsplit ! $ drops ! $ use1 𝓛 (‵ (cells (mem u8) xs b o)) (whole_in 𝓛 u8 xs b o) $ done !

  pub cells_in : (n : ℕ) (xs : List ℕ) (b o : ℕ) → length xs ≡ n → ent 𝓤 (sem 𝓛 (cells (mem u8) xs b o)) (sem 𝓛 (part_at (Array u8 n) full_share xs b o))
  cells_in n xs b o e =
      qed 𝓛 (‵ (cells (mem u8) xs b o) ∷ []) ∵ use1 𝓛 (‵ (bytes full_share xs b o)) (whole_out 𝓛 u8 xs b o) $ feq_i ! ℕ (length xs) n e $ fjoin ! $
      use1 𝓛 (‵ (part_at (Array u8 n) full_share xs b o)) (bytes_whole 𝓛 full_share n xs b o) $ done !

  -- one more zero behind others
  pub zero_in : (i b o : ℕ) → ent 𝓤 (sep 𝓤 (sem 𝓛 (bytes full_share (replicate i 0) b o)) (sem 𝓛 (part_at u8 full_share 0 b (i + o)))) (sem 𝓛 (bytes full_share (replicate (i + 1) 0) b o))
  zero_in i b o =
      let zeros = replicate i 0 in let long : length zeros ≡ i = length-replicate i 0 in let behind : i + o ≡ o + length zeros = omega arith in
      qed 𝓛 (‵ (bytes full_share zeros b o) ∷ ‵ (part_at u8 full_share 0 b (i + o)) ∷ []) ∵
      nothing ! $ rewrite ! 2 (λ (k : ℕ). ‵ (part_at u8 full_share 0 b k)) behind refl $ move ! (2 ∷ 0 ∷ []) $ fjoin ! $ move ! (1 ∷ 0 ∷ []) $
      use2 𝓛 (‵ (bytes full_share (zeros ++ 0 ∷ []) b o)) (bytes_glue 𝓛 full_share zeros (0 ∷ []) b o) $
      rewrite ! 0 (λ (xs : List ℕ). ‵ (bytes full_share xs b o)) (replicate-append-replicate i 1 0) refl $ done !

  -- two pages side by side are room for all their bytes
  pub both_room : (m n : ℕ) (xs ys : List ℕ) (b o : ℕ)
      → ent 𝓤 (sep 𝓤 (sem 𝓛 (part_at (Array u8 m) full_share xs b o)) (sem 𝓛 (part_at (Array u8 n) full_share ys b (m + o)))) (sem 𝓛 (froom (space (m + n)) b o))
  both_room m n xs ys b o =
      qed 𝓛 (‵ (part_at (Array u8 m) full_share xs b o) ∷ ‵ (part_at (Array u8 n) full_share ys b (m + o)) ∷ []) ∵
      use1 𝓛 (‵ (fsep (feq ℕ (length xs) m) (bytes full_share xs b o))) (bytes_apart 𝓛 full_share m xs b o) $ fsplit ! $ feq_l ! (λ e. move ! (1 ∷ []) $
      use1 𝓛 (‵ (fsep (feq ℕ (length ys) n) (bytes full_share ys b (m + o)))) (bytes_apart 𝓛 full_share n ys b (m + o)) $ fsplit ! $ feq_l ! (λ e'.
      let behind : m + o ≡ o + length xs = omega arith in let all : length (xs ++ ys) ≡ m + n = length-append xs ys ∙ omega arith in
      rewrite ! 0 (λ (k : ℕ). ‵ (bytes full_share ys b k)) behind refl $ move ! (1 ∷ []) $
      use2 𝓛 (‵ (bytes full_share (xs ++ ys) b o)) (bytes_glue 𝓛 full_share xs ys b o) $ use1 𝓛 (‵ (froom (space (length (xs ++ ys))) b o)) (bytes-room 𝓛 (xs ++ ys) b o) $
      rewrite ! 0 (λ (k : ℕ). ‵ (froom (space k) b o)) all refl $ done !))
