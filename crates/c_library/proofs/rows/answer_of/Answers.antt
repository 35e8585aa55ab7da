-- Each function answers what its row says.
use Rattle.c_code.specs.declared.program.LibraryFunction.TheVariants as library
use Rattle.c_library.proofs.CallLemmas.{as_typed}
use Rattle.c_library.proofs.rows.answer_of.Goals as goal

pub returns-in-Print : goal.returns-in-Print
returns-in-Print c = as_typed c.args.function library.Print c.args.size c.args.cells.now c.args.heap.now c.args.kinds.now c.args.heap.now c.g_print.result c.in-Print.is c.g_print.ensures

pub returns-in-PrintErr : goal.returns-in-PrintErr
returns-in-PrintErr c = as_typed c.args.function library.PrintErr c.args.size c.args.cells.now c.args.heap.now c.args.kinds.now c.args.heap.now c.g_printerr.result c.in-PrintErr.is c.g_printerr.ensures

pub returns-in-SliceFree : goal.returns-in-SliceFree
returns-in-SliceFree c = as_typed c.args.function library.SliceFree c.args.size c.args.cells.now c.args.heap.now c.args.kinds.now c.g_slice_free.new.heap c.g_slice_free.result c.in-SliceFree.is c.g_slice_free.ensures

pub returns-in-Free : goal.returns-in-Free
returns-in-Free c = as_typed c.args.function library.Free c.args.size c.args.cells.now c.args.heap.now c.args.kinds.now c.g_free.new.heap c.g_free.result c.in-Free.is c.g_free.ensures

pub returns-in-Duplicate : goal.returns-in-Duplicate
returns-in-Duplicate c = as_typed c.args.function library.Duplicate c.args.size c.args.cells.now c.args.heap.now c.args.kinds.now c.g_strdup.new.heap c.g_strdup.result c.in-Duplicate.is c.g_strdup.ensures

pub returns-in-DuplicateFront : goal.returns-in-DuplicateFront
returns-in-DuplicateFront c = as_typed c.args.function library.DuplicateFront c.args.size c.args.cells.now c.args.heap.now c.args.kinds.now c.g_strndup.new.heap c.g_strndup.result c.in-DuplicateFront.is c.g_strndup.ensures

pub returns-in-Concatenate : goal.returns-in-Concatenate
returns-in-Concatenate c = as_typed c.args.function library.Concatenate c.args.size c.args.cells.now c.args.heap.now c.args.kinds.now c.g_strconcat.new.heap c.g_strconcat.result c.in-Concatenate.is c.g_strconcat.ensures

pub returns-in-Format : goal.returns-in-Format
returns-in-Format c = as_typed c.args.function library.Format c.args.size c.args.cells.now c.args.heap.now c.args.kinds.now c.g_strdup_printf.new.heap c.g_strdup_printf.result c.in-Format.is c.g_strdup_printf.ensures

pub returns-in-Compare : goal.returns-in-Compare
returns-in-Compare c = as_typed c.args.function library.Compare c.args.size c.args.cells.now c.args.heap.now c.args.kinds.now c.args.heap.now c.g_strcmp0.result c.in-Compare.is c.g_strcmp0.ensures

pub returns-in-Length : goal.returns-in-Length
returns-in-Length c = as_typed c.args.function library.Length c.args.size c.args.cells.now c.args.heap.now c.args.kinds.now c.args.heap.now c.strlen.result c.in-Length.is c.strlen.ensures

pub returns-in-HasPrefix : goal.returns-in-HasPrefix
returns-in-HasPrefix c = as_typed c.args.function library.HasPrefix c.args.size c.args.cells.now c.args.heap.now c.args.kinds.now c.args.heap.now c.g_str_has_prefix.result c.in-HasPrefix.is c.g_str_has_prefix.ensures

pub returns-in-HasSuffix : goal.returns-in-HasSuffix
returns-in-HasSuffix c = as_typed c.args.function library.HasSuffix c.args.size c.args.cells.now c.args.heap.now c.args.kinds.now c.args.heap.now c.g_str_has_suffix.result c.in-HasSuffix.is c.g_str_has_suffix.ensures

pub returns-in-Find : goal.returns-in-Find
returns-in-Find c = as_typed c.args.function library.Find c.args.size c.args.cells.now c.args.heap.now c.args.kinds.now c.args.heap.now c.g_strstr_len.result c.in-Find.is c.g_strstr_len.ensures

pub returns-in-ReadNumber : goal.returns-in-ReadNumber
returns-in-ReadNumber c = as_typed c.args.function library.ReadNumber c.args.size c.args.cells.now c.args.heap.now c.args.kinds.now c.args.heap.now c.g_ascii_strtoll.result c.in-ReadNumber.is c.g_ascii_strtoll.ensures

pub returns-in-Abort : goal.returns-in-Abort
returns-in-Abort c = as_typed c.args.function library.Abort c.args.size c.args.cells.now c.args.heap.now c.args.kinds.now c.args.heap.now c.g_error.result c.in-Abort.is c.g_error.ensures

pub returns-in-ErrorNew : goal.returns-in-ErrorNew
returns-in-ErrorNew c = as_typed c.args.function library.ErrorNew c.args.size c.args.cells.now c.args.heap.now c.args.kinds.now c.g_error_new.new.heap c.g_error_new.result c.in-ErrorNew.is c.g_error_new.ensures

pub returns-in-ErrorCopy : goal.returns-in-ErrorCopy
returns-in-ErrorCopy c = as_typed c.args.function library.ErrorCopy c.args.size c.args.cells.now c.args.heap.now c.args.kinds.now c.g_error_copy.new.heap c.g_error_copy.result c.in-ErrorCopy.is c.g_error_copy.ensures

pub returns-in-ErrorFree : goal.returns-in-ErrorFree
returns-in-ErrorFree c = as_typed c.args.function library.ErrorFree c.args.size c.args.cells.now c.args.heap.now c.args.kinds.now c.g_error_free.new.heap c.g_error_free.result c.in-ErrorFree.is c.g_error_free.ensures

pub returns-in-ErrorPropagate : goal.returns-in-ErrorPropagate
returns-in-ErrorPropagate c = as_typed c.args.function library.ErrorPropagate c.args.size c.args.cells.now c.args.heap.now c.args.kinds.now c.g_propagate_error.new.heap c.g_propagate_error.result c.in-ErrorPropagate.is c.g_propagate_error.ensures

pub returns-in-ErrorMatches : goal.returns-in-ErrorMatches
returns-in-ErrorMatches c = as_typed c.args.function library.ErrorMatches c.args.size c.args.cells.now c.args.heap.now c.args.kinds.now c.args.heap.now c.g_error_matches.result c.in-ErrorMatches.is c.g_error_matches.ensures
