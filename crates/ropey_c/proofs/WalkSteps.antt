-- The names that several walks cite.
pub use Rattle.std.proofs.Common.{◌≡◌, [], ◌∷◌, refl, List, ◌++◌, sym, subst, ap, ◌∙◌}
pub use mir.Syntax.{a_type, named}
pub use mir.MapTy.{inst_fn}
pub use mir.Val.{Val, vptr, vcons, vnil}
pub use base.Fraction.{full_share}
pub use base.Logic.{SProp, emp, ent, id⊢}
pub use base.Fml.{ftrue, flft}
pub use prog.Wp.{WpFn}
pub use types.Kit.{‵, raw, ◌⊛◌, ◌$◌, ◌∵◌, !, qed, by, move, keep, drop, split, fsplit, fjoin, use0, suffices, feq_i, some, later, split3, join, pick, await, rewrite, use1}
pub use types.Run.{lit, no_more, and_then, returns, enter, stop, fld, of_opd}
pub use types.ByLocal.{alloc_all, pass_all, free_all, look_at, get, sets, get_in}
pub use types.Part.{agg, sub, whole}
pub use types.Match.{live}
pub use contract.BorrowLft.{◌⊑◌, ⊑_refl}
pub use contract.Monad.{fact, fact_i}
pub use contract.Running.{tables}
pub use denote.Exit.{yes, no}
pub use denote.Opens.{hide, unhide}
pub use denote.Param.{param, layouts, layout}
pub use denote.Param.NoDrop.{glues}
pub use denote.RattleType.{RattleType, owns}
pub use denote.RawPtr.{ptr_val, Ptr, null_ptr, block_ptr}
pub use denote.Ref.{ShrRef, shr_vals, shr_Tells}
pub use denote.Signature.{types_at, plain, type_at}
pub use denote.Steps.{nothing, only, heard}
pub use denote.Triple.Clauses.{Lasts, lasts}
pub use denote.Triple.Spec.{triple_of}
pub use denote.Triple.Table.{framed}
pub use denote.Triple.Walked.{Stays, stay_dropped, walk_of, Goes-dropped, stay_none_ref, Goes-none_ref}
pub use Rattle.std.proofs.raw_atomic.Walks.{proved_at, leaves, proved}
pub use Rattle.std.proofs.option.Made.{Some-of, none_of}
pub use Rattle.std.proofs.alloc.Calls.{handle_tells}
pub use Rattle.std.proofs.BoxSteps.Form.{Bx, box_typed}
pub use Rattle.std.proofs.BoxSteps.Steps.{box_out, box_in}
pub use Rattle.std.specs.Prelude.{Option, None, Some}
