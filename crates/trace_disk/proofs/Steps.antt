-- What the proofs by hand cite.
pub use Rattle.std.proofs.Common.{List, [], ◌∷◌, refl, length}
pub use Rattle.std.proofs.raw_atomic.Walks.{proved}
pub use base.Logic.{id⊢}
pub use base.Fml.{ftrue, flft}
pub use mir.Syntax.{named, w64}
pub use mir.Val.{Val, vunit, vptr, vstruct, vnil}
pub use contract.Running.{tables}
pub use types.Kit.{‵, raw, ◌⊛◌, ◌$◌, ◌∵◌, !, qed, done, move, keep, drop, use1, split, join, fsplit, fsplit3, fjoin, fjoin3, feq_i, suffices, frame}
pub use types.Run.{enter, of_opd, unit_lit, no_more, returns}
pub use types.Part.{agg}
pub use types.ByLocal.{alloc_all, pass_all, free_all, look_at, sets}
pub use denote.Builtin.{u8, usize}
pub use denote.Exit.{yes}
pub use denote.Plain.{uint_vals, uint_Tells}
pub use denote.RattleType.{owns}
pub use denote.Ref.{MutRef, mut_vals, mut_Tells}
pub use denote.Shadow.{pure_i}
pub use denote.Signature.{plain, types_at}
pub use denote.Slice.{ShrSlice, slice_val, shr_slice_vals, shr_slice_Tells}
pub use denote.Steps.{nothing, opens, closes}
pub use denote.Triple.Entry.{on_entry, alive}
pub use denote.Triple.Walked.{says, Stays, stay_ref, stay_dropped, stay_none_slice, walk_of, Goes-ref, Goes-dropped, Goes-none_slice, ends_at}
