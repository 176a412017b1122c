-- What is owned of a room, a page or a pair of them, as a formula beside the machine's words.
use Rattle.std.proofs.Common.{◌≡◌, ℕ, ◌<◌, ◌^◌, List, [], ◌∷◌, refl, w64}
use seplogic.Ra.Ura.{Ura}
use mir.Syntax.{Sym}
use mir.Val.{Val, vint, vstruct, vcons, vnil, of_list}
use base.Logic.{ent, emp, sep}
use types.Logic.{Logic, sem}
use types.Kit.{‵, ◌$◌, ◌∵◌, !, qed, move, use0, use1, fjoin, fpack, feq_i, done}
use denote.Builtin.{usize}
use denote.RattleType.{RattleType, Denots, Valss, flat, owns}
use denote.RawPtr.{Ptr, RawPtr, ptr_val, rawptr_vals, rawptr_Tells, rawptr_Makes}
use denote.Plain.{uint_Makes, uint_vals, uint_Tells}
use denote.Steps.{nothing, owned}
use denote.Copied.{Struct-Copied, uint_Copied}
use denote.Laws.{Is}
use denote.Opens.{Opens}
use denote.Struct.Laws.{RawPtr-copy}
use denote.Struct.Owning.{shape as owning}
use denote.Struct.Struct.{Shape, Struct, Struct-Tells, within}
use denote.Struct.Declared.{shape}
use denote.Struct.Tuple.{Tuple, tuple_type}
use Rattle.page_pair.specs.contracts.block.Page as Page
use Rattle.page_pair.specs.contracts.block.Room as Room
use Rattle.page_pair.specs.contracts.block.Title as Title

-- a pointer and a count, as a struct of that name holds them
abbrev pub words : Ptr → ℕ → Val
words at count = vstruct (vcons (ptr_val at) (vcons (vint w64 count) vnil))

abbrev pub two : Sym → Shape
two name = record { name = name; args = []; types = []; fields = RawPtr ∷ usize ∷ [] }

-- what those fields own says which words they are
pub words_are : (name : Sym) (at : Ptr) (count : ℕ) (vs : List Val) → Is (Struct (two name)) (at, (count, tt)) vs → vs ≡ words at count ∷ []
words_are name at count vs is = Struct-Tells (two name) (rawptr_vals, (uint_vals w64, tt)) (rawptr_Tells, (uint_Tells w64, tt)) (at, (count, tt)) vs is

module _ {M : Type 1} {𝓤 : Ura M} (𝓛 : Logic 𝓤) where
  -- the fields make the struct
  pub fields_in : (S : Shape) (a : Denots S.fields) (vss : Valss S.fields) → ent 𝓤 (sem 𝓛 (owns S.fields a vss)) (sem 𝓛 ((Struct S).own_val a (vstruct (of_list (flat S.fields vss)) ∷ [])))
  fields_in S a vss =
      let v = vstruct (of_list (flat S.fields vss)) ∷ [] in
      qed 𝓛 (‵ (owns S.fields a vss) ∷ []) ∵ feq_i ! (List Val) v v refl $ fjoin ! $ fpack ! (Valss S.fields) (within S a v) vss $ done !

  -- they are read through a `&`
  pub words_open : (name : Sym) → Opens 𝓛 (Struct (two name))
  words_open name = (Struct-Copied 𝓛 (two name) (refl, (refl, tt)) (RawPtr-copy.copied M 𝓤 𝓛, (uint_Copied 𝓛 w64, tt))).opens

  pub words_in : (name : Sym) (at : Ptr) (count : ℕ) → count < 2 ^ 64 → ent 𝓤 (emp 𝓤) (sem 𝓛 ((Struct (two name)).own_val (at, (count, tt)) (words at count ∷ [])))
  words_in name at count fits =
      let vss : Valss (RawPtr ∷ usize ∷ []) = (ptr_val at ∷ [], (vint w64 count ∷ [], tt)) in
      qed 𝓛 [] ∵ nothing ! $ owned ! usize _ (uint_Makes 𝓛 w64) count _ (refl, fits) $ fjoin ! $
      owned ! RawPtr _ (rawptr_Makes 𝓛) at _ refl $ fjoin ! $
      use1 𝓛 (‵ ((Struct (two name)).own_val (at, (count, tt)) (words at count ∷ []))) (fields_in (two name) (at, (count, tt)) vss) $ done !

  -- two values make the pair of them
  pub pair_in : (R S : RattleType) (x : R.Denot) (y : S.Denot) (u v : Val) → ent 𝓤 (sep 𝓤 (sem 𝓛 (R.own_val x (u ∷ []))) (sem 𝓛 (S.own_val y (v ∷ [])))) (sem 𝓛 ((Tuple (R ∷ S ∷ [])).own_val (x, y) (vstruct (vcons u (vcons v vnil)) ∷ [])))
  pair_in R S x y u v =
      qed 𝓛 (‵ (R.own_val x (u ∷ [])) ∷ ‵ (S.own_val y (v ∷ [])) ∷ []) ∵ nothing ! $ move ! (2 ∷ 0 ∷ []) $ fjoin ! $ move ! (1 ∷ []) $ fjoin ! $
      use1 𝓛 (‵ ((Tuple (R ∷ S ∷ [])).own_val (x, y) (vstruct (vcons u (vcons v vnil)) ∷ []))) (fields_in (shape (tuple_type (R ∷ S ∷ []))) (x, (y, tt)) (u ∷ [], (v ∷ [], tt))) $ done !

  -- the memory of a room or a page makes it
  pub room_in : (r : Room.the_row.Denot) → r.count < 2 ^ 64 → ent 𝓤 (sem 𝓛 (Room.the_heap r)) (sem 𝓛 (Room.the_row.own_val r (words r.at r.count ∷ [])))
  room_in r fits =
      qed 𝓛 (‵ (Room.the_heap r) ∷ []) ∵ use0 𝓛 (‵ ((Struct (two Room.struct.name)).own_val (r.at, (r.count, tt)) (words r.at r.count ∷ []))) (words_in Room.struct.name r.at r.count fits) $ fjoin ! $ done !

  pub page_in : (p : Page.the_row.Denot) → p.count < 2 ^ 64 → ent 𝓤 (sem 𝓛 (Page.the_heap p)) (sem 𝓛 (Page.the_row.own_val p (words p.at p.count ∷ [])))
  page_in p fits =
      qed 𝓛 (‵ (Page.the_heap p) ∷ []) ∵ use0 𝓛 (‵ ((Struct (two Page.struct.name)).own_val (p.at, (p.count, tt)) (words p.at p.count ∷ []))) (words_in Page.struct.name p.at p.count fits) $ fjoin ! $ done !

  -- the right to free a block makes a title, which has no words
  pub title_in : (t : Title.the_row.Denot) → ent 𝓤 (sem 𝓛 (Title.the_heap t)) (sem 𝓛 (Title.the_row.own_val t (vstruct vnil ∷ [])))
  title_in t =
      qed 𝓛 (‵ (Title.the_heap t) ∷ []) ∵ nothing ! $ use1 𝓛 (‵ ((Struct (owning Title.the_type)).own_val tt (vstruct vnil ∷ []))) (fields_in (owning Title.the_type) tt tt) $ fjoin ! $ done !
