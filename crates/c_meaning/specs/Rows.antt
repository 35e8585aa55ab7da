-- The functions of the library by their names.
use Rattle.std.specs.Prelude.{ℕ, List, [], ◌∷◌, ◌++◌, Option, Some, None, codes, if◌then◌else◌}
use Rattle.std.specs.Str.{bytes_eq}
use Rattle.vg_base.specs.declared.event.Stream.TheVariants as stream
use Rattle.c_tree.specs.Library.{Row, present_rows, later_rows}
use Rattle.c_meaning.specs.BlockRows.{Does, g_slice_new0, g_slice_free, g_new0, g_renew, g_free, g_strdup, g_strndup, g_strconcat, g_strdup_printf, g_strcmp0, strlen, g_str_has_prefix, g_str_has_suffix, g_strstr_len, g_ascii_strtoll, print_to, g_error, vala_rt_read_line, g_quark_from_static_string, g_error_new, g_error_copy, g_error_free, g_propagate_error, g_error_matches}
use Rattle.c_meaning.specs.TypeRows.{g_type_register_static_simple, g_type_add_interface_static, g_type_interface_add_prerequisite, g_type_interface_peek, g_type_class_peek_parent, g_type_check_instance_is_a}
use Rattle.c_meaning.specs.Counts.{g_object_ref, g_object_unref}
use Rattle.c_meaning.specs.ObjectRows.{g_object_new, g_object_class_install_property, param_spec_plain, param_spec_number, param_spec_object, value_get}
use Rattle.c_meaning.specs.SignalRows.{g_object_notify, g_signal_new, g_signal_emit, g_signal_connect_data, g_signal_connect_object, g_signal_handler_disconnect, g_signal_handlers_disconnect_matched}
use Rattle.c_meaning.specs.LoopRows.{g_main_loop_new, g_main_loop_ref, g_main_loop_unref, g_main_loop_run, g_main_loop_quit, g_idle_add_full, g_timeout_add_full, g_source_remove}

-- a function, and what it does
pub record LibraryRow : Type 0 where
  pub name : List ℕ
  pub does : Does

abbrev pub row : List ℕ → Does → LibraryRow
row x d = record { name = x; does = d }

abbrev pub block_rows : List LibraryRow
block_rows =
    row (codes "g_print") (print_to stream.Out)
    ∷ row (codes "g_printerr") (print_to stream.Err)
    ∷ row (codes "g_slice_new0") g_slice_new0
    ∷ row (codes "g_slice_free") g_slice_free
    ∷ row (codes "g_new0") g_new0
    ∷ row (codes "g_renew") g_renew
    ∷ row (codes "g_free") g_free
    ∷ row (codes "g_strdup") g_strdup
    ∷ row (codes "g_strndup") g_strndup
    ∷ row (codes "g_strconcat") g_strconcat
    ∷ row (codes "g_strdup_printf") g_strdup_printf
    ∷ row (codes "g_strcmp0") g_strcmp0
    ∷ row (codes "strlen") strlen
    ∷ row (codes "g_str_has_prefix") g_str_has_prefix
    ∷ row (codes "g_str_has_suffix") g_str_has_suffix
    ∷ row (codes "g_strstr_len") g_strstr_len
    ∷ row (codes "g_ascii_strtoll") g_ascii_strtoll
    ∷ row (codes "g_error") g_error
    ∷ row (codes "vala_rt_read_line") vala_rt_read_line
    ∷ row (codes "g_quark_from_static_string") g_quark_from_static_string
    ∷ row (codes "g_error_new") g_error_new
    ∷ row (codes "g_error_copy") g_error_copy
    ∷ row (codes "g_error_free") g_error_free
    ∷ row (codes "g_propagate_error") g_propagate_error
    ∷ row (codes "g_error_matches") g_error_matches
    ∷ []

abbrev pub object_rows : List LibraryRow
object_rows =
    row (codes "g_type_register_static_simple") g_type_register_static_simple
    ∷ row (codes "g_type_add_interface_static") g_type_add_interface_static
    ∷ row (codes "g_type_interface_add_prerequisite") g_type_interface_add_prerequisite
    ∷ row (codes "g_type_interface_peek") g_type_interface_peek
    ∷ row (codes "g_type_class_peek_parent") g_type_class_peek_parent
    ∷ row (codes "g_type_check_instance_is_a") g_type_check_instance_is_a
    ∷ row (codes "g_object_new") g_object_new
    ∷ row (codes "g_object_ref") g_object_ref
    ∷ row (codes "g_object_unref") g_object_unref
    ∷ row (codes "g_object_class_install_property") g_object_class_install_property
    ∷ row (codes "g_object_notify") g_object_notify
    ∷ row (codes "g_param_spec_boolean") (param_spec_plain 20)
    ∷ row (codes "g_param_spec_string") (param_spec_plain 64)
    ∷ row (codes "g_param_spec_object") param_spec_object
    ∷ row (codes "g_value_get_boolean") (value_get 20)
    ∷ row (codes "g_value_get_string") (value_get 64)
    ∷ row (codes "g_value_get_object") (value_get 80)
    ∷ []

-- the kinds of numbers of properties, and the numbers of their types
pub record NumberType : Type 0 where
  pub name : List ℕ
  pub type : ℕ

abbrev pub number_type : List ℕ → ℕ → NumberType
number_type x n = record { name = x; type = n }

abbrev pub number_types : List NumberType
number_types =
    number_type (codes "char") 12
    ∷ number_type (codes "uchar") 16
    ∷ number_type (codes "int") 24
    ∷ number_type (codes "uint") 28
    ∷ number_type (codes "long") 32
    ∷ number_type (codes "ulong") 36
    ∷ number_type (codes "int64") 40
    ∷ number_type (codes "uint64") 44
    ∷ []

abbrev pub number_rows : List NumberType → List LibraryRow
number_rows [] = []
number_rows (t ∷ ts) = row (codes "g_param_spec_" ++ t.name) (param_spec_number t.type) ∷ row (codes "g_value_get_" ++ t.name) (value_get t.type) ∷ number_rows ts

abbrev pub signal_rows : List LibraryRow
signal_rows =
    row (codes "g_signal_new") g_signal_new
    ∷ row (codes "g_signal_emit") g_signal_emit
    ∷ row (codes "g_signal_connect_data") g_signal_connect_data
    ∷ row (codes "g_signal_connect_object") g_signal_connect_object
    ∷ row (codes "g_signal_handler_disconnect") g_signal_handler_disconnect
    ∷ row (codes "g_signal_handlers_disconnect_matched") g_signal_handlers_disconnect_matched
    ∷ []

abbrev pub loop_rows : List LibraryRow
loop_rows =
    row (codes "g_main_loop_new") g_main_loop_new
    ∷ row (codes "g_main_loop_ref") g_main_loop_ref
    ∷ row (codes "g_main_loop_unref") g_main_loop_unref
    ∷ row (codes "g_main_loop_run") g_main_loop_run
    ∷ row (codes "g_main_loop_quit") g_main_loop_quit
    ∷ row (codes "g_idle_add_full") g_idle_add_full
    ∷ row (codes "g_timeout_add_full") g_timeout_add_full
    ∷ row (codes "g_source_remove") g_source_remove
    ∷ []

-- THE LIBRARY
abbrev pub rows : List LibraryRow
rows = block_rows ++ object_rows ++ number_rows number_types ++ signal_rows ++ loop_rows

abbrev pub does_in : List LibraryRow → List ℕ → Option Does
does_in [] x = None
does_in (r ∷ rs) x = if bytes_eq r.name x then Some r.does else does_in rs x

-- what the function of a name does
abbrev pub does : List ℕ → Option Does
does x = does_in rows x

-- what the function of a name takes
abbrev pub declared_in : List Row → List ℕ → Option Row
declared_in [] x = None
declared_in (r ∷ rs) x = if bytes_eq r.name x then Some r else declared_in rs x

abbrev pub declared_row : List ℕ → Option Row
declared_row x = declared_in (present_rows ++ later_rows) x
