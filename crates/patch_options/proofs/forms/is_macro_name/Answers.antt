use Rattle.patch_options.proofs.forms.is_macro_name.Goals as goal

pub bounds-first-0 : goal.bounds-first-0
bounds-first-0 c = c.in-len1-up.len_at_least

pub slice_bounds-rest-count : goal.slice_bounds-rest-count
slice_bounds-rest-count c = c.in-len1-up.len_at_least
